-- Records of a cut file, one after the other.
use Rattle.std.proofs.Common.{◌≡◌, ℕ, ◌+◌, ◌*◌, ◌≤◌, List, [], ◌∷◌, ◌++◌, length, take, drop, sym, refl, ap, ◌∙◌, append_assoc, arith, length-append}
use Rattle.std.proofs.lemmas.List.{take-append-drop, take_at, drop_at, length-take-le}
use Rattle.rules.specs.CutFiles.{record_of, records, over}

pub records_size : (at : ℕ) (ks : List ℕ) → length (records at ks) ≡ 4 * length ks
records_size at [] = refl
records_size at (k ∷ ks) = let i = records_size (at + k) ks in omega arith

-- the part of the buffer that is filled, once a record more is there
pub filled_more : (buffer : List ℕ) (n start end : ℕ) (rest file : List ℕ) → n + 4 ≤ length buffer
    → take n buffer ++ (record_of start end ++ rest) ≡ file
    → take (n + 4) (take n buffer ++ (record_of start end ++ drop (n + 4) buffer)) ++ rest ≡ file
filled_more buffer n start end rest file h e =
    let l = length-take-le n buffer (omega arith) in
    let m : length (take n buffer ++ record_of start end) ≡ n + 4 = length-append (take n buffer) (record_of start end) ∙ omega arith in
    ap (λ l. take (n + 4) l ++ rest) (sym (append_assoc (take n buffer) (record_of start end) (drop (n + 4) buffer)))
    ∙ ap (λ l. l ++ rest) (take_at (take n buffer ++ record_of start end) (drop (n + 4) buffer) (n + 4) m)
    ∙ append_assoc (take n buffer) (record_of start end) rest ∙ e

-- and what lies past it
pub past_more : (buffer : List ℕ) (n start end : ℕ) → n + 4 ≤ length buffer
    → drop (n + 4) (take n buffer ++ (record_of start end ++ drop (n + 4) buffer)) ≡ drop (n + 4) buffer
past_more buffer n start end h =
    let l = length-take-le n buffer (omega arith) in
    let m : length (take n buffer ++ record_of start end) ≡ n + 4 = length-append (take n buffer) (record_of start end) ∙ omega arith in
    ap (drop (n + 4)) (sym (append_assoc (take n buffer) (record_of start end) (drop (n + 4) buffer)))
    ∙ drop_at (take n buffer ++ record_of start end) (drop (n + 4) buffer) (n + 4) m

-- once the records are all there
pub filled_all : (buffer old file : List ℕ) (n : ℕ) → take n buffer ≡ file → length file ≡ n → drop n buffer ≡ drop n old → buffer ≡ over file old
filled_all buffer old file n e l d =
    sym (take-append-drop n buffer) ∙ ap (λ xs. xs ++ drop n buffer) e ∙ ap (λ xs. file ++ xs) d ∙ ap (λ k. file ++ drop k old) (sym l)
