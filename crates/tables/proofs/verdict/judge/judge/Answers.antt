use Rattle.std.proofs.Common.{◌≡◌, ℕ, ◌+◌, List, Decides, sym, ap, ◌∙◌, subst, inr, arith}
use Rattle.refusals.specs.declared.Direction.{Direction}
use Rattle.refusals.specs.declared.Direction.TheVariants.{Forward}
use Rattle.refusals.specs.declared.Refusal.TheVariants.{NonAdvancing}
use Rattle.automata.specs.Machine.{Advances}
use Rattle.automata.specs.Stuck.{Stuck}
use Rattle.automata.specs.Sure.{Sure, holds}
use Rattle.automata.specs.Parts.{code_of}
use Rattle.automata.proofs.Stucks.{never_stuck}
use Rattle.tables.specs.Layout.{classes, machine, code_place}
use Rattle.tables.specs.Checks.{Passes, checks}
use Rattle.tables.specs.Laid.{Laid}
use Rattle.tables.proofs.verdict.judge.judge.Goals as goal

-- what holds of the state table that was made holds of the table's machine
moved : (P : (ℕ → ℕ → ℕ) → ℕ → Type 0) (f g : ℕ → ℕ → ℕ) (m n : ℕ) → f ≡ g → m ≡ n → P f m → P g n
moved P f g m n e q p = subst (λ (k : ℕ). P g k) q (subst (λ (h : ℕ → ℕ → ℕ). P h m) e p)

-- the machine of what the checks hand on
module _ (a b : List ℕ) (e : b ≡ a) where
  pub machine-of : machine b Forward ≡ machine a Forward
  machine-of = ap (λ (l : List ℕ). machine l Forward) e

pub returns-in-Some : goal.returns-in-Some
returns-in-Some c =
    let a = c.args.bytes.now in
    let q = c.in_ok-passed.passed in
    let same = c.in_ok-passed.ensures.same in
    let m = c.machine-forward.result in
    let e = c.machine-forward.ensures in
    let machine-is = e.machine ∙ machine-of a q.bytes.now same in
    let classes-are = e.classes ∙ ap classes same in
    let l = c.in-Some.ensures.least in
    let k = c.in-Some.k in
    let part = c.state_part.ensures in
    let start = c.first_code_place-at.ensures.value ∙ ap (λ (d : Direction). code_place c.state_part.result.parts.bytes.now d 0) part.direction ∙ ap (λ (l : List ℕ). code_place l Forward 0) (part.parts ∙ same) in
    let place : c.first_code_place-at.result + k ≡ code_place a Forward k = omega arith in
    inr (
      subst (λ (l : List ℕ). Passes (checks l)) same q.sound,
      (
        k,
        record {
          there = moved (λ f n. Stuck f n k) (code_of m) (machine a Forward) m.classes (classes a) machine-is classes-are l.0;
          least = λ j s. l.1 j (moved (λ f n. Stuck f n j) (machine a Forward) (code_of m) (classes a) m.classes (sym machine-is) (sym classes-are) s);
        },
        ap (λ (p : ℕ). NonAdvancing p) place,
      ),
    )

pub returns : goal.returns
returns c =
    let a = c.args.bytes.now in
    let q = c.in_ok-passed.passed in
    let same = c.in_ok-passed.ensures.same in
    let m = c.machine-forward.result in
    let e = c.machine-forward.ensures in
    let machine-is = e.machine ∙ machine-of a q.bytes.now same in
    let total = e.classes ∙ ap classes same in
    let rows = c.sure_pairs.result.rows in
    let s = c.sure_pairs.ensures in
    record {
      is_sound = record {
        passes = subst (λ (l : List ℕ). Passes (checks l)) same q.sound;
        advances = moved Advances (code_of m) (machine a Forward) m.classes (classes a) machine-is total (never_stuck (code_of m) m.classes c.in_default.ensures.least);
      };
      sure_bits = record {
        bits = λ x y h l. moved (λ f n. Decides (holds rows x y) (Sure f n x y)) (code_of m) (machine a Forward) m.classes (classes a) machine-is total (s.sure x y (omega arith) (omega arith));
        none_first = λ x y h. s.first x y (omega arith);
        none_second = λ x y h. s.second x y (omega arith);
      };
      is_laid = subst (λ (l : List ℕ). Laid l c.layout.result) same c.layout.ensures;
    }
