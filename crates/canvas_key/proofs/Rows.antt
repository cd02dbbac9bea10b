-- The worked rows of the definitions, by computation.
use Rattle.std.specs.Prelude.{◌≡◌, ℕ, List, [], ◌∷◌, ◌++◌, replicate, Some, None, Ok, Err, refl}
use Rattle.canvas_key.specs.Text.{key_fault, least_part}
use Rattle.canvas_key.specs.Rank.{fresh_key, part_after, part_before, part_of_rank, part_above, part_below}
use Rattle.canvas_key.specs.Between.{key_between}
use Rattle.canvas_key.specs.declared.KeyFault.TheVariants.{NoRoom, KeyTooLong, BadHead, TooShort, BadDigit, LeastInteger, LastZero}

abbrev a0 : List ℕ
a0 = 97 ∷ 48 ∷ []

abbrev a1 : List ℕ
a1 = 97 ∷ 49 ∷ []

abbrev Zz : List ℕ
Zz = 90 ∷ 122 ∷ []

abbrev a0V : List ℕ
a0V = a0 ++ (86 ∷ [])

pub none_none : key_between None None ≡ Ok a0
unfolding fresh_key part_after part_before part_of_rank part_above part_below
none_none = refl

pub a0_none : key_between (Some a0) None ≡ Ok a1
unfolding fresh_key part_after part_before part_of_rank part_above part_below
a0_none = refl

pub none_a0 : key_between None (Some a0) ≡ Ok Zz
unfolding fresh_key part_after part_before part_of_rank part_above part_below
none_a0 = refl

pub a0_a1 : key_between (Some a0) (Some a1) ≡ Ok a0V
unfolding fresh_key part_after part_before part_of_rank part_above part_below
a0_a1 = refl

pub a0_a0V : key_between (Some a0) (Some a0V) ≡ Ok (a0 ++ (71 ∷ []))
unfolding fresh_key part_after part_before part_of_rank part_above part_below
a0_a0V = refl

pub a0V_a1 : key_between (Some a0V) (Some a1) ≡ Ok (a0 ++ (108 ∷ []))
unfolding fresh_key part_after part_before part_of_rank part_above part_below
a0V_a1 = refl

pub bzz_none : key_between (Some (98 ∷ 122 ∷ 122 ∷ [])) None ≡ Ok (99 ∷ 48 ∷ 48 ∷ 48 ∷ [])
unfolding fresh_key part_after part_before part_of_rank part_above part_below
bzz_none = refl

pub none_Y00 : key_between None (Some (89 ∷ 48 ∷ 48 ∷ [])) ≡ Ok (88 ∷ 122 ∷ 122 ∷ 122 ∷ [])
unfolding fresh_key part_after part_before part_of_rank part_above part_below
none_Y00 = refl

pub Zz_a1 : key_between (Some Zz) (Some a1) ≡ Ok a0
unfolding fresh_key part_after part_before part_of_rank part_above part_below
Zz_a1 = refl

pub Zz_a0 : key_between (Some Zz) (Some a0) ≡ Ok (Zz ++ (86 ∷ []))
unfolding fresh_key part_after part_before part_of_rank part_above part_below
Zz_a0 = refl

pub a0V_a0W : key_between (Some a0V) (Some (a0 ++ (87 ∷ []))) ≡ Ok (a0 ++ (86 ∷ 86 ∷ []))
unfolding fresh_key part_after part_before part_of_rank part_above part_below
a0V_a0W = refl

pub a0_a01 : key_between (Some a0) (Some (a0 ++ (49 ∷ []))) ≡ Ok (a0 ++ (48 ∷ 86 ∷ []))
unfolding fresh_key part_after part_before part_of_rank part_above part_below
a0_a01 = refl

pub a0_a001 : key_between (Some a0) (Some (a0 ++ (48 ∷ 49 ∷ []))) ≡ Ok (a0 ++ (48 ∷ 48 ∷ 86 ∷ []))
unfolding fresh_key part_after part_before part_of_rank part_above part_below
a0_a001 = refl

pub fresh_61 : fresh_key 61 ≡ 97 ∷ 122 ∷ []
unfolding fresh_key part_after part_before part_of_rank part_above part_below
fresh_61 = refl

pub fresh_62 : fresh_key 62 ≡ 98 ∷ 48 ∷ 48 ∷ []
unfolding fresh_key part_after part_before part_of_rank part_above part_below
fresh_62 = refl

pub fresh_3906 : fresh_key 3906 ≡ 99 ∷ 48 ∷ 48 ∷ 48 ∷ []
unfolding fresh_key part_after part_before part_of_rank part_above part_below
fresh_3906 = refl

pub fresh_4095 : fresh_key 4095 ≡ 99 ∷ 48 ∷ 51 ∷ 51 ∷ []
unfolding fresh_key part_after part_before part_of_rank part_above part_below
fresh_4095 = refl

pub none_above_least : key_between None (Some (65 ∷ replicate 25 48 ++ (49 ∷ []))) ≡ Ok (least_part ++ (86 ∷ []))
unfolding fresh_key part_after part_before part_of_rank part_above part_below
none_above_least = refl

pub none_over_least : key_between None (Some (least_part ++ (49 ∷ []))) ≡ Ok (least_part ++ (48 ∷ 86 ∷ []))
unfolding fresh_key part_after part_before part_of_rank part_above part_below
none_over_least = refl

pub long_a1 : key_between (Some (a0 ++ replicate 126 122)) (Some a1) ≡ Err NoRoom
unfolding fresh_key part_after part_before part_of_rank part_above part_below
long_a1 = refl

pub greatest_none : key_between (Some (replicate 27 122)) None ≡ Ok (replicate 27 122 ++ (86 ∷ []))
unfolding fresh_key part_after part_before part_of_rank part_above part_below
greatest_none = refl

pub read_a00 : key_fault (a0 ++ (48 ∷ [])) ≡ Some LastZero
read_a00 = refl

pub read_0 : key_fault (48 ∷ []) ≡ Some BadHead
read_0 = refl

pub read_empty : key_fault [] ≡ Some BadHead
read_empty = refl

pub read_b1 : key_fault (98 ∷ 49 ∷ []) ≡ Some TooShort
read_b1 = refl

pub read_a- : key_fault (97 ∷ 45 ∷ []) ≡ Some BadDigit
read_a- = refl

pub read_least : key_fault least_part ≡ Some LeastInteger
read_least = refl

pub read_long : key_fault (a0 ++ replicate 127 122) ≡ Some KeyTooLong
read_long = refl

pub read_full : key_fault (a0 ++ replicate 126 122) ≡ None
read_full = refl
