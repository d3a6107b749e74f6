-- What walls say of the cutting of a text.
use Rattle.std.specs.Prelude.{◌≡◌, ℕ, ◌+◌, ◌-◌, ◌<◌, ◌≤◌, Bool, cond, ◌⊎◌, List, [], ◌∷◌, ◌++◌, length, take, drop, Some, None, Ok, Err, Option, Result, ◌==◌, nat_lt}
use Rattle.refusals.specs.declared.Refusal.{Refusal}
use Rattle.refusals.specs.declared.Refusal.TheVariants.{PlaceOutside}
use Rattle.rules.specs.Cutting.{cutting}
use Rattle.rules.specs.Answers.{about, about_place, wall_at}

-- how many runs of these lengths start below a place
abbrev pub starts_below : ℕ → List ℕ → ℕ
starts_below place [] = 0
starts_below place (k ∷ ks) = cond (place == 0) 0 (1 + starts_below (place - k) ks)

-- how many bytes runs of these lengths have
abbrev pub total : List ℕ → ℕ
total [] = 0
total (k ∷ ks) = k + total ks

-- no run crosses a place: each ends at or before it, or starts at or after it
abbrev pub Uncrossed : ℕ → List ℕ → Type 0
Uncrossed place ks = (k : ℕ) → k < length ks → (total (take (k + 1) ks) ≤ place) ⊎ (place ≤ total (take k ks))

-- two places part a text into three that are cut alone
abbrev pub InThree : (List ℕ → ℕ) → List ℕ → ℕ → ℕ → Type 0
InThree run text from to =
    cutting run text ≡ cutting run (take from text) ++ (cutting run (take (to - from) (drop from text)) ++ cutting run (drop to text))

-- an answer about a place: at a wall this number, elsewhere none
abbrev pub at_wall : (List ℕ → List ℕ → Bool) → List ℕ → ℕ → ℕ → Result (Option ℕ) Refusal
at_wall parts text place number = about_place text place (cond (wall_at parts text place) (Some number) None)

-- an answer about two places of a text
abbrev pub about_places : {V : Type 0} → List ℕ → ℕ → ℕ → V → Result V Refusal
about_places text from to v =
    about text (cond (nat_lt from (length text)) (cond (nat_lt to (length text)) (Ok v) (Err (PlaceOutside to))) (Err (PlaceOutside from)))
