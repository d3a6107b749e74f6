-- What a rule answers about a text and a place, refusals first. A text has at most 16,383 bytes.
use Rattle.std.specs.Prelude.{ℕ, ◌+◌, Bool, true, cond, List, length, take, drop, Ok, Err, Result, ◌==◌, nat_lt}
use Rattle.refusals.specs.declared.Refusal.{Refusal}
use Rattle.refusals.specs.declared.Refusal.TheVariants.{TextTooLong, PlaceOutside}

-- an answer about a text that is not too long
abbrev pub about : {V : Type 0} → List ℕ → Result V Refusal → Result V Refusal
about text r = cond (nat_lt 16383 (length text)) (Err (TextTooLong (length text))) r

-- an answer about a place of such a text
abbrev pub about_place : {V : Type 0} → List ℕ → ℕ → V → Result V Refusal
about_place text place v = about text (cond (nat_lt place (length text)) (Ok v) (Err (PlaceOutside place)))

-- `end`: where the first run of what begins at the place ends
abbrev pub end_of : (List ℕ → ℕ) → List ℕ → ℕ → Result ℕ Refusal
end_of run text place = about_place text place (place + run (drop place text))

-- whether a wall stands at a place, by `parts`, whether one stands between two texts that are not empty: yes at the text's
-- start, elsewhere whether one stands between the bytes before the place and the rest
abbrev pub wall_at : (List ℕ → List ℕ → Bool) → List ℕ → ℕ → Bool
wall_at parts text place = cond (place == 0) true (parts (take place text) (drop place text))

-- `wall`: whether a wall stands at the place
abbrev pub wall_of : (List ℕ → List ℕ → Bool) → List ℕ → ℕ → Result Bool Refusal
wall_of parts text place = about_place text place (wall_at parts text place)
