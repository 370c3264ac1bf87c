-- The texts of tags.
use Rattle.std.specs.Fmt.{decimal}
use Rattle.std.specs.List.{range_with_len}
use Rattle.std.specs.Prelude.{IsUtf8}
use Rattle.std.proofs.Common.{◌≡◌, ◌==◌, ℕ, zero, suc, ◌+◌, ◌-◌, ◌%◌, ◌^◌, ◌≤◌, ◌<◌, true, false, cond, List, [], length, map, ap, sym, ◌∙◌, arith}
use Rattle.std.proofs.lemmas.Fmt.{IsAscii-decimal, length-decimal-le}
use Rattle.std.proofs.lemmas.List.FromFn.{length-map-range_with_len}
use Rattle.std.proofs.lemmas.Str.{IsUtf8-from_ascii, IsUtf8-nil}
use Rattle.columns_leaf.specs.Texts.{IsText, AreTexts}
use Rattle.sample_rows.specs.Parts.{AreStrung, has_tag, tag_text}
use Rattle.sample_rows.specs.Rows.{each_row}
use Rattle.columns_slots.proofs.Strings.{pieces_len}
use Rattle.sample_rows.proofs.Strung.{strung_pieces}

pub short_decimal : (n : ℕ) → n < 1000000 → length (decimal n) ≤ 6
short_decimal n h = length-decimal-le 6 n (omega arith) (omega (arith, h)) (omega (arith, h))

tag_is_text : (i : ℕ) → i < 2 ^ 64 → IsText (tag_text i)
unfolding IsText
tag_is_text i h = elim (i % 3 == 0) as (λ b. IsUtf8 (cond b [] (decimal i))) [ true ↦ IsUtf8-nil | false ↦ IsUtf8-from_ascii (decimal i) (IsAscii-decimal i h) ]

tags_from : (a n : ℕ) → a + n ≤ 2 ^ 64 → AreTexts (map tag_text (range_with_len a n))
tags_from a zero h = tt
tags_from a (suc n) h = (tag_is_text a (omega (arith, h)), tags_from (a + 1) n (omega (arith, h)))

pub tags_are_texts : (n : ℕ) → n ≤ 1000000 → AreTexts (each_row tag_text n)
tags_are_texts n h = tags_from 0 n (omega (arith, h))

pub tags_masked : (os bs : List ℕ) (n : ℕ) → AreStrung (each_row tag_text n) os bs → length (each_row has_tag n) ≡ length os - 1
tags_masked os bs n h =
    rw (length-map-range_with_len has_tag 0 n) (omega (arith, sym (length-map-range_with_len tag_text 0 n) ∙ ap length (sym (strung_pieces (each_row tag_text n) os bs h)) ∙ pieces_len os bs))
