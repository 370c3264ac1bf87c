-- Texts between lengths.
use Rattle.std.proofs.Common.{◌≡◌, ℕ, zero, suc, ◌+◌, ◌<◌, ◌≤◌, true, false, ◌&&◌, List, [], ◌∷◌, length, take, drop, get_or, sum, refl, arith, ap, ◌∙◌, add-one}
use Rattle.std.proofs.Math.Seq.{drop-cons}
use Rattle.std.proofs.lemmas.List.Sums.{sum_by-cons}
use Rattle.std.proofs.lemmas.Str.{is_utf8-from_IsUtf8, IsUtf8-from_ascii, IsAscii-take, IsAscii-drop, IsUtf8-take, IsUtf8-drop}
use Rattle.std.specs.Str.{is_utf8, IsAscii, IsCharBoundary}
use Rattle.read_leaf.specs.Strings.{cut_off, is_each, IsText}

pub each-ascii : (ns bs : List ℕ) → IsAscii bs → is_each is_utf8 (cut_off ns bs) ≡ true
each-ascii [] bs h = refl
each-ascii (n ∷ ns) bs h = rw (is_utf8-from_IsUtf8 (take n bs) (IsUtf8-from_ascii (take n bs) (IsAscii-take bs n h))) (each-ascii ns (drop n bs) (IsAscii-drop bs n h))

next-length : (ns : List ℕ) (i : ℕ) → i < length ns → drop i ns ≡ get_or ns i 0 ∷ drop (i + 1) ns
next-length ns i h = rw add-one (drop-cons ns i 0 h)

pub next-sum : (ns : List ℕ) (i : ℕ) → i < length ns → sum (drop i ns) ≡ get_or ns i 0 + sum (drop (i + 1) ns)
next-sum ns i h = ap sum (next-length ns i h) ∙ sum_by-cons (λ (x : ℕ). x) (get_or ns i 0) (drop (i + 1) ns)

next-each : (ns bs : List ℕ) (i : ℕ) → i < length ns → is_each is_utf8 (cut_off (drop i ns) bs) ≡ (is_utf8 (take (get_or ns i 0) bs) && is_each is_utf8 (cut_off (drop (i + 1) ns) (drop (get_or ns i 0) bs)))
next-each ns bs i h = ap (λ (ms : List ℕ). is_each is_utf8 (cut_off ms bs)) (next-length ns i h)

pub each-next : (ns bs : List ℕ) (i : ℕ) → i < length ns → is_utf8 (take (get_or ns i 0) bs) ≡ true → is_each is_utf8 (cut_off (drop (i + 1) ns) (drop (get_or ns i 0) bs)) ≡ is_each is_utf8 (cut_off (drop i ns) bs)
each-next ns bs i h e = rw (next-each ns bs i h, e) refl

pub none-next : (ns bs : List ℕ) (i : ℕ) → i < length ns → is_utf8 (take (get_or ns i 0) bs) ≡ false → is_each is_utf8 (cut_off (drop i ns) bs) ≡ false
none-next ns bs i h e = rw (next-each ns bs i h, e) refl

pub each-done : (ns bs : List ℕ) (i : ℕ) → length ns ≤ i → is_each is_utf8 (cut_off (drop i ns) bs) ≡ true
each-done [] bs zero h = refl
each-done [] bs (suc i) h = refl
each-done (n ∷ ns) bs zero h = absurd (omega (arith, h))
each-done (n ∷ ns) bs (suc i) h = each-done ns bs i (omega (arith, h))

-- ---- a text that is cut
pub front-text : (bs : List ℕ) (i : ℕ) → IsText bs → IsCharBoundary bs i → is_utf8 (take i bs) ≡ true
unfolding IsText
front-text bs i t b = is_utf8-from_IsUtf8 (take i bs) (IsUtf8-take bs i t b)

pub rest-text : (bs : List ℕ) (i : ℕ) → IsText bs → IsCharBoundary bs i → IsText (drop i bs)
unfolding IsText
rest-text bs i t b = IsUtf8-drop bs i t b
