use Rattle.std.proofs.Common.{◌≡◌, ◌≤◌, ◌<◌, ◌-◌, ◌∙◌, ℕ, List, length, take, drop, Option, Some, None, Bor, sym, ap, subst₂, arith, length-drop}
use Rattle.std.specs.Prelude.{MatchOption}
use Rattle.std.proofs.Math.Seq.{take-length}
use Rattle.pq_files.specs.Levels.{IsBehindLength}
use Rattle.pq_numbers.specs.Texts.{number_of}
use Rattle.pq_pages.proofs.Behind.{section_at, no_room}
use Rattle.pq_pages.proofs.split.behind_length.Goals as goal

all_of : (n : ℕ) (bytes : List ℕ) → take (length bytes - n) (drop n bytes) ≡ drop n bytes
all_of n bytes = ap (λ (k : ℕ). take k (drop n bytes)) (sym (length-drop n bytes)) ∙ take-length (drop n bytes)

by_front : (max n : ℕ) (bytes rest : List ℕ) (r : Option (Bor (List ℕ) × Bor (List ℕ))) → rest ≡ drop 4 bytes → (max ≡ 0 → ⊥) → 4 ≤ length bytes → n ≡ number_of (take 4 bytes)
    → MatchOption r (length rest < n) (λ x. (n ≤ length rest) × (x.0.now ≡ take n rest) × (x.1.now ≡ drop n rest)) → MatchOption r ((section behind : List ℕ) → IsBehindLength max bytes section behind → ⊥) (λ x. IsBehindLength max bytes x.0.now x.1.now)
by_front max n bytes rest None e ne four is h = λ section behind. no_room max n bytes section behind ne is (omega (arith, h, ap length e))
by_front max n bytes rest (Some x) e ne four is h =
    subst₂ (λ (s t : List ℕ). IsBehindLength max bytes s t) (ap (take n) (sym e) ∙ sym h.1) (ap (drop n) (sym e) ∙ sym h.2) (section_at max n bytes ne four is (omega (arith, h.0, ap length e)))

pub returns : goal.returns
returns c = by_front c.args.maximum c.in-Some.size c.args.bytes.now (take (length c.args.bytes.now - 4) (drop 4 c.args.bytes.now)) c.front.result (all_of 4 c.args.bytes.now) c.if-maximum-eq0.false (omega (arith, c.if-bytes-lt4.false)) c.in-Some.ensures.gives c.front.ensures
