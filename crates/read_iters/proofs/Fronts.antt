-- Byte strings behind their lengths.
use Rattle.std.proofs.Common.{◌≡◌, ℕ, ◌+◌, ◌<◌, ◌≤◌, List, ◌++◌, length, take, refl, sym, ap, ◌∙◌, arith, subst}
use Rattle.std.proofs.lemmas.List.{append_assoc, length-append, take_all}
use Rattle.pq_files.proofs.Unique.{append_same}
use Rattle.pq_files.specs.Plain.{IsPrefixed}
use Rattle.pq_numbers.specs.Texts.{number_of}
use Rattle.read_iters.specs.Strings.{TakesString, NoString}

-- the bytes behind a string's length begin with as many as it says
behind_head : (head behind s rest : List ℕ) → length head ≡ 4 → (t : TakesString (head ++ behind) s rest) → (head ≡ t.prefixed.head) × (behind ≡ s ++ rest)
behind_head head behind s rest four t =
    append_same head t.prefixed.head behind (s ++ rest) (four ∙ sym t.prefixed.four) (t.parts ∙ ap (λ x. x ++ rest) t.prefixed.parts ∙ append_assoc t.prefixed.head s rest)

pub no_head : (text : List ℕ) → length text < 4 → NoString text
no_head text h s rest t =
    absurd (omega (arith, h, t.prefixed.four, ap length t.parts, length-append t.first rest, ap length t.prefixed.parts, length-append t.prefixed.head s))

pub no_bytes : (text head behind : List ℕ) → length head ≡ 4 → text ≡ head ++ behind → length behind < number_of (take 4 head) → NoString text
no_bytes text head behind four parts h s rest t =
    let u : TakesString (head ++ behind) s rest = subst (λ x. TakesString x s rest) parts t in
    let e = behind_head head behind s rest four u in
    let n : number_of (take 4 head) ≡ length s = ap number_of (take_all 4 head (omega (arith, four)) ∙ e.0) ∙ u.prefixed.size in
    absurd (omega (arith, h, n, ap length e.1, length-append s rest))

pub takes : (text head behind s rest : List ℕ) → length head ≡ 4 → text ≡ head ++ behind → length s ≡ number_of (take 4 head) → behind ≡ s ++ rest → TakesString text s rest
takes text head behind s rest four parts size cut =
    record {
      first = head ++ s;
      prefixed = record { head = head; four = four; size = ap number_of (sym (take_all 4 head (omega (arith, four)))) ∙ sym size; parts = refl };
      parts = parts ∙ ap (λ x. head ++ x) cut ∙ sym (append_assoc head s rest);
    }
