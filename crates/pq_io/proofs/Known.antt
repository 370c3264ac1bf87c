-- Lemmas on known bytes.
use Rattle.std.proofs.Common.{◌≡◌, ◌+◌, ◌-◌, ◌≤◌, ℕ, List, Option, None, Some, take, drop, length, sym, ◌∙◌, subst, arith}
use Rattle.std.specs.Io.KnownBytes.{Keeps, Appends}
use Rattle.std.proofs.KnownBytes.{Appends-trans}
use Rattle.std.proofs.Math.Seq.{take-add}
use Rattle.std.proofs.lemmas.List.{take_all, length-drop}
use Rattle.pq_io.specs.Causes.{Rose}

pub appends_kept : (a b c : Option (List ℕ)) (bs : List ℕ) → Appends a b bs → Keeps b c → Appends a c bs
appends_kept None b c bs p q = tt
appends_kept (Some x) None c bs p q = absurd p
appends_kept (Some x) (Some y) None bs p q = absurd q
appends_kept (Some x) (Some y) (Some z) bs p q = q ∙ p

-- a first part, and then a first part of the slice of the rest
pub appends_next : (a b c : Option (List ℕ)) (bs : List ℕ) (k n m : ℕ) → n ≤ length (take m (drop k bs)) → m ≡ length bs - k → Appends a b (take k bs) → Appends b c (take n (take m (drop k bs))) → Appends a c (take (k + n) bs)
appends_next a b c bs k n m high e p q =
    let all : take m (drop k bs) ≡ drop k bs = take_all m (drop k bs) (omega (arith, length-drop k bs)) in
    let q' : Appends b c (take n (drop k bs)) = subst (λ (l : List ℕ). Appends b c (take n l)) all q in
    subst (Appends a c) (sym (take-add k n bs)) (Appends-trans a b c _ _ p q')

pub rose_wider : (a b c d : ℕ) → a ≤ b → Rose b c → c ≤ d → Rose a d
rose_wider a b c d p q r = omega arith
