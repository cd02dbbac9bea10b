-- The codes of refusals and their names.
use Rattle.std.specs.Prelude.{ℕ, List, [], ◌∷◌, ◌==◌, codes, if◌then◌else◌}

-- each code, with its name
abbrev pub table : List (ℕ × List ℕ)
table =
    (1, codes "OutOfMemory") ∷
    (2, codes "NoSuchShape") ∷
    (3, codes "NoSuchParent") ∷
    (4, codes "NotAContainer") ∷
    (5, codes "Cycle") ∷
    (6, codes "TooDeep") ∷
    (7, codes "TooMany") ∷
    (8, codes "BadSize") ∷
    (9, codes "BadPose") ∷
    (10, codes "BadPolygon") ∷
    (11, codes "SpotNotSibling") ∷
    (12, codes "IndexTaken") ∷
    (13, codes "NoRoom") ∷
    (14, codes "WrongKind") ∷
    (15, codes "IdsSpent") ∷
    (16, codes "VersionsSpent") ∷
    (17, codes "Behind") ∷
    (18, codes "Strangers") ∷
    (19, codes "NoSeats") ∷
    (20, codes "BadHead") ∷
    (21, codes "TooShort") ∷
    (22, codes "BadDigit") ∷
    (23, codes "LastZero") ∷
    (24, codes "LeastInteger") ∷
    (25, codes "KeyTooLong") ∷
    (30, codes "BadWindow") ∷
    (31, codes "BadWorkers") ∷
    (32, codes "BadSetting") ∷
    (33, codes "NoView") ∷
    (34, codes "BadLevel") ∷
    (40, codes "NotP6") ∷
    (41, codes "BadHeader") ∷
    (42, codes "Truncated") ∷
    (43, codes "TooLong") ∷
    (50, codes "BadJson") ∷
    (51, codes "NotObject") ∷
    (52, codes "BadVerb") ∷
    (53, codes "BadField") ∷
    (54, codes "ExtraField") ∷
    (60, codes "BadFormat") ∷
    (61, codes "BadRecord") ∷
    (62, codes "BadTree") ∷
    (70, codes "LineTooLong") ∷
    (71, codes "ReadFault") ∷
    (72, codes "WriteFault") ∷
    (73, codes "TooManyRequests") ∷
    (74, codes "CutLine") ∷ []

-- the name beside a code, or no text where the code has none
abbrev pub name_in : List (ℕ × List ℕ) → ℕ → List ℕ
name_in [] code = []
name_in (row ∷ rows) code = if code == row.0 then row.1 else name_in rows code

-- the name of a code
unfoldable pub name_of : ℕ → List ℕ
name_of code = name_in table code
