-- Strings that are cut off bytes one after another.
use Rattle.std.proofs.Common.{◌≡◌, ℕ, ◌+◌, ◌≤◌, List, [], ◌∷◌, ◌++◌, length, take, drop, arith, ap, sym, ◌∙◌, append_assoc, append-nil, length-append, sum}
use Rattle.std.proofs.Math.Seq.{take-add}
use Rattle.std.proofs.lemmas.List.{length-drop, length-take-le}
use Rattle.std.proofs.lemmas.List.Sums.{sum_by-cons}
use Rattle.columns_core.specs.Rising.{places_from}
use Rattle.columns_slots.specs.Bytes.{pieces}
use Rattle.read_leaf.specs.Strings.{IsLaid, cut_off}
use Rattle.read_leaf.proofs.Pieces.{laid-more, pieces-more}

pub record IsGrown (os content text : List ℕ) (ns : List ℕ) (e : ℕ) : Type 0 where
  pub laid : IsLaid (os ++ places_from e ns) (content ++ take (sum ns) text)
  pub strings : pieces (os ++ places_from e ns) (content ++ take (sum ns) text) ≡ pieces os content ++ cut_off ns text

pub grown : (ns os content text : List ℕ) (e : ℕ) → e ≡ length content → IsLaid os content → sum ns ≤ length text → IsGrown os content text ns e
grown [] os content text e is l h = record { laid = rw (append-nil os, append-nil content) l; strings = rw (append-nil os, append-nil content) (sym (append-nil (pieces os content))) }
grown (n ∷ ns) os content text e is l h =
    let s : List ℕ = take n text in
    let all : sum (n ∷ ns) ≡ n + sum ns = sum_by-cons (λ (x : ℕ). x) n ns in
    let size : length s ≡ n = length-take-le n text (omega (arith, all, h)) in
    let end : e + n ≡ length content + length s = omega (arith, is, size) in
    let more = laid-more os content s (e + n) l end in
    let one = pieces-more os content s (e + n) l.some l.last l.below end in
    let rest = grown ns (os ++ (e + n) ∷ []) (content ++ s) (drop n text) (e + n) (end ∙ sym (length-append content s)) more (omega (arith, h, all, length-drop n text)) in
    let offsets : (os ++ (e + n) ∷ []) ++ places_from (e + n) ns ≡ os ++ places_from e (n ∷ ns) = append_assoc os ((e + n) ∷ []) (places_from (e + n) ns) in
    let bytes : (content ++ s) ++ take (sum ns) (drop n text) ≡ content ++ take (sum (n ∷ ns)) text = append_assoc content s (take (sum ns) (drop n text)) ∙ ap (λ (t : List ℕ). content ++ t) (sym (take-add n (sum ns) text) ∙ ap (λ (k : ℕ). take k text) (sym all)) in
    record {
      laid = rw (offsets, bytes) at rest.laid;
      strings = (rw (offsets, bytes) at rest.strings) ∙ (ap (λ (t : List (List ℕ)). t ++ cut_off ns (drop n text)) one ∙ append_assoc (pieces os content) (s ∷ []) (cut_off ns (drop n text)));
    }
