-- What a crash leaves in the two writes of a turn.
use Rattle.std.proofs.Common.{◌≡◌, ◌⊎◌, inl, inr, ℕ, ◌+◌, List, [], ◌∷◌, ◌++◌, length, get_or, take, drop, refl, sym, ◌∙◌, ap, subst, arith, append_assoc, length-append, length-drop, take-append-drop}
use Rattle.std.specs.List.{AllByRecursion}
use Rattle.std.proofs.lemmas.Bool.{cases_eq}
use Rattle.std.proofs.lemmas.List.{take_at, drop_at, drop_more, take_all, drop_all, append-nil}
use Rattle.std.proofs.lemmas.List.Concat.{flat_map-append}
use Rattle.canvas_journal.specs.Device.{Holds, Torn}
use Rattle.canvas_journal.specs.Lines.{IsLine, written, text, recovered}
use Rattle.canvas_journal.specs.Journal.{at_rest, IsWithOrWithout}
use Rattle.canvas_journal.proofs.Texts.{recovered-text, recovered_closed}

-- lines and a closed gate
abbrev pub shut : List (List ℕ) → List ℕ
shut lines = text lines ++ 10 ∷ []

-- the blank of the first line, if there is one
abbrev pub gate_of : List (List ℕ) → List ℕ
gate_of lines = take 1 (text lines)

-- the lines that count, some byte for the gate, and what is behind it; a closed gate where nothing is staged
pub record Opening (done staged : List (List ℕ)) (file : List ℕ) : Type 0 where
  pub gate : ℕ
  pub split : file ≡ text done ++ gate ∷ drop 1 (shut staged)
  pub closed : staged ≡ [] → gate ≡ 10

shut_is : (staged : List (List ℕ)) → (staged ≡ []) ⊎ (shut staged ≡ 32 ∷ drop 1 (shut staged))
shut_is [] = inl refl
shut_is (line ∷ lines) = inr refl

module _ (done staged : List (List ℕ)) (are_done : AllByRecursion IsLine done) (are_staged : AllByRecursion IsLine staged) where
  -- it stands for the lines that count, with the staged ones or without, whatever follows
  pub opening_stands : (file rest : List ℕ) → Opening done staged file → IsWithOrWithout done staged (file ++ rest)
  opening_stands file rest o =
      let whole : file ++ rest ≡ text done ++ o.gate ∷ (drop 1 (shut staged) ++ rest) = ap (λ (l : List ℕ). l ++ rest) o.split ∙ append_assoc (text done) (o.gate ∷ drop 1 (shut staged)) rest in
      elim (cases_eq o.gate 32) [
        | inr other ↦ inl (ap recovered whole ∙ recovered_closed done o.gate (drop 1 (shut staged) ++ rest) are_done other)
        | inl blank ↦
            elim (shut_is staged) [
              | inl none ↦ absurd (omega (arith, blank, o.closed none))
              | inr some ↦
                  let opened : o.gate ∷ (drop 1 (shut staged) ++ rest) ≡ text staged ++ 10 ∷ rest =
                  ap (λ (g : ℕ). g ∷ (drop 1 (shut staged) ++ rest)) blank ∙ ap (λ (l : List ℕ). l ++ rest) (sym some) ∙ append_assoc (text staged) (10 ∷ []) rest in
                  inr (ap recovered (whole ∙ ap (λ (l : List ℕ). text done ++ l) opened)
                  ∙ recovered-text done (text staged ++ 10 ∷ rest) are_done
                  ∙ ap (λ (ls : List (List ℕ)). done ++ ls) (recovered_closed staged 10 rest are_staged (omega arith)))
            ]
      ]

pub length-shut : (lines : List (List ℕ)) → length (shut lines) ≡ length (text lines) + 1
length-shut lines = omega (arith, length-append (text lines) (10 ∷ []))

module _ (done staged : List (List ℕ)) (end : ℕ) (ends : end ≡ length (text done)) where
  -- a file that has these bytes up to the gate, and those behind it
  pub length-opening : (g : ℕ) → length (text done ++ g ∷ drop 1 (shut staged)) ≡ end + length (text staged) + 1
  length-opening g = omega (arith, ends, length-append (text done) (g ∷ drop 1 (shut staged)), length-drop 1 (shut staged), length-shut staged)

  front : take end (at_rest done staged) ≡ text done
  front = take_at (text done) (10 ∷ drop 1 (shut staged)) end (sym ends)

  from_gate : drop end (at_rest done staged) ≡ 10 ∷ drop 1 (shut staged)
  from_gate = drop_at (text done) (10 ∷ drop 1 (shut staged)) end (sym ends)

  back : drop (end + 1) (at_rest done staged) ≡ drop 1 (shut staged)
  back =
      ap (λ (l : List ℕ). drop (end + 1) l) (sym (append_assoc (text done) (10 ∷ []) (drop 1 (shut staged))))
      ∙ drop_at (text done ++ 10 ∷ []) (drop 1 (shut staged)) (end + 1) (omega (arith, ends, length-append (text done) (10 ∷ [])))

  not_torn : (c : List ℕ) → Torn end 0 (at_rest done staged) c → c ≡ at_rest done staged
  not_torn c torn =
      let same : end + 0 ≡ end = omega arith in
      let after : drop end c ≡ drop end (at_rest done staged) = subst (λ k. drop k c ≡ drop k (at_rest done staged)) same torn.after in
      sym (take-append-drop end c) ∙ ap (λ (l : List ℕ). l ++ drop end c) torn.before ∙ ap (λ (l : List ℕ). take end (at_rest done staged) ++ l) after ∙ take-append-drop end (at_rest done staged)

  torn_open : (c : List ℕ) → Torn end 1 (at_rest done staged) c → c ≡ text done ++ get_or c end 0 ∷ drop 1 (shut staged)
  torn_open c torn =
      let rest : drop end c ≡ get_or c end 0 ∷ drop 1 (shut staged) =
      drop_more c end 0 (omega (arith, torn.no_shorter, length-opening 10)) ∙ ap (λ (l : List ℕ). get_or c end 0 ∷ l) (torn.after ∙ back) in
      sym (take-append-drop end c) ∙ ap (λ (l : List ℕ). l ++ drop end c) (torn.before ∙ front) ∙ ap (λ (l : List ℕ). text done ++ l) rest

  not_written : (c : List ℕ) → Holds (at_rest done staged) end [] c → c ≡ at_rest done staged
  not_written c holds =
      let same : end + 0 ≡ end = omega arith in
      holds ∙ ap (λ (l : List ℕ). l ++ drop (end + 0) (at_rest done staged)) (append-nil (take end (at_rest done staged)))
      ∙ ap (λ k. take end (at_rest done staged) ++ drop k (at_rest done staged)) same ∙ take-append-drop end (at_rest done staged)

  written_open : (c : List ℕ) → Holds (at_rest done staged) end (32 ∷ []) c → c ≡ text done ++ 32 ∷ drop 1 (shut staged)
  written_open c holds =
      holds
      ∙ ap (λ (l : List ℕ). l ++ (32 ∷ []) ++ drop (end + 1) (at_rest done staged)) front
      ∙ ap (λ (l : List ℕ). text done ++ (32 ∷ []) ++ l) back
      ∙ append_assoc (text done) (32 ∷ []) (drop 1 (shut staged))

-- in each outcome of the first write
pub torn_gate : (done staged : List (List ℕ)) (end : ℕ) → end ≡ length (text done) → (c : List ℕ) → Torn end (length (gate_of staged)) (at_rest done staged) c → Opening done staged c
torn_gate done [] end ends c torn = record { gate = 10; split = not_torn done [] end ends c torn; closed = λ none. refl }
torn_gate done (line ∷ lines) end ends c torn = record { gate = get_or c end 0; split = torn_open done (line ∷ lines) end ends c torn; closed = λ none. absurd (cc none) }

-- and once it is done
pub written_gate : (done staged : List (List ℕ)) (end : ℕ) → end ≡ length (text done) → (c : List ℕ) → Holds (at_rest done staged) end (gate_of staged) c → c ≡ text done ++ shut staged
written_gate done [] end ends c holds = not_written done [] end ends c holds
written_gate done (line ∷ lines) end ends c holds = written_open done (line ∷ lines) end ends c holds

module _ (done staged : List (List ℕ)) (end : ℕ) (ends : end ≡ length (text done)) (are_done : AllByRecursion IsLine done) (are_staged : AllByRecursion IsLine staged) where
  -- in each outcome of the second write
  pub torn_body : (d c : List ℕ) (n : ℕ) → Opening done staged d → Torn (end + length (text staged) + 1) n d c → IsWithOrWithout done staged c
  torn_body d c n o torn =
      let at = end + length (text staged) + 1 in
      let long : length d ≡ at = ap length o.split ∙ length-opening done staged end ends o.gate in
      let front : take at c ≡ d = torn.before ∙ take_all at d (omega (arith, long)) in
      let whole : c ≡ d ++ drop at c = sym (take-append-drop at c) ∙ ap (λ (l : List ℕ). l ++ drop at c) front in
      subst (IsWithOrWithout done staged) (sym whole) (opening_stands done staged are_done are_staged d (drop at c) o)

  pub opening_now : (d : List ℕ) → Opening done staged d → IsWithOrWithout done staged d
  opening_now d o = subst (IsWithOrWithout done staged) (append-nil d) (opening_stands done staged are_done are_staged d [] o)

  pub written_body : (batch : List (List ℕ)) (c : List ℕ) → Holds (text done ++ shut staged) (end + length (text staged) + 1) (drop 1 (shut batch)) c → c ≡ at_rest (done ++ staged) batch
  written_body batch c holds =
      let at = end + length (text staged) + 1 in
      let body = drop 1 (shut batch) in
      let file = text done ++ shut staged in
      let long : length file ≡ at = omega (arith, ends, length-append (text done) (shut staged), length-shut staged) in
      let both : text (done ++ staged) ≡ text done ++ text staged = flat_map-append written done staged in
      let joined : file ++ body ≡ at_rest (done ++ staged) batch =
      ap (λ (l : List ℕ). l ++ body) (sym (append_assoc (text done) (text staged) (10 ∷ []))) ∙ append_assoc (text done ++ text staged) (10 ∷ []) body ∙ ap (λ (l : List ℕ). l ++ 10 ∷ body) (sym both) in
      holds
      ∙ ap (λ (l : List ℕ). l ++ body ++ drop (at + length body) file) (take_all at file (omega (arith, long)))
      ∙ ap (λ (l : List ℕ). file ++ body ++ l) (drop_all (at + length body) file (omega (arith, long)))
      ∙ append-nil (file ++ body) ∙ joined

  pub at_rest_stands : (batch : List (List ℕ)) → recovered (at_rest (done ++ staged) batch) ≡ done ++ staged
  at_rest_stands batch = recovered_closed (done ++ staged) 10 (drop 1 (shut batch)) (both_lines done are_done) (omega arith)
    where
      both_lines : (xs : List (List ℕ)) → AllByRecursion IsLine xs → AllByRecursion IsLine (xs ++ staged)
      both_lines [] h = are_staged
      both_lines (x ∷ xs) h = (h.0, both_lines xs h.1)

pub length-both : (done staged : List (List ℕ)) → length (text (done ++ staged)) ≡ length (text done) + length (text staged)
length-both done staged = ap length (flat_map-append written done staged) ∙ length-append (text done) (text staged)
