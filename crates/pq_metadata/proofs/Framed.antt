-- The frame, told from the front and from the back.
use Rattle.std.proofs.Common.{◌≡◌, ℕ, ◌+◌, ◌-◌, List, ◌++◌, length, take, drop, refl, sym, ap, ◌∙◌, arith}
use Rattle.std.proofs.lemmas.List.{append_assoc, length-append, length-take-le, length-drop, take_at, drop_at, take-append-drop, drop-drop}
use Rattle.pq_metadata.specs.Frame.{magic, IsFramed, footer_length, footer_place, footer_of, HasFrame, FramesAreTold}
use Rattle.pq_numbers.specs.Texts.{number_of}

-- a file with a frame, from its parts
module _ (bytes : List ℕ) (place : ℕ) (footer : List ℕ) (a : IsFramed bytes place footer) where
  all_length : length bytes ≡ 4 + length a.pages + length footer + 8
  all_length = omega (arith, a.four, ap length a.parts, length-append magic (a.pages ++ (footer ++ (a.size ++ magic))), length-append a.pages (footer ++ (a.size ++ magic)), length-append footer (a.size ++ magic), length-append a.size magic)

  before : List ℕ
  before = magic ++ (a.pages ++ footer)

  before_length : length before ≡ length bytes - 8
  unfolding before
  before_length = omega (arith, all_length, length-append magic (a.pages ++ footer), length-append a.pages footer)

  in_two : bytes ≡ before ++ (a.size ++ magic)
  unfolding before
  in_two = a.parts ∙ ap (λ (z : List ℕ). magic ++ z) (sym (append_assoc a.pages footer (a.size ++ magic))) ∙ sym (append_assoc magic (a.pages ++ footer) (a.size ++ magic))

  behind : drop (length bytes - 8) bytes ≡ a.size ++ magic
  behind = ap (drop (length bytes - 8)) in_two ∙ drop_at before (a.size ++ magic) (length bytes - 8) before_length

  pub footer_length_is : footer_length bytes ≡ length footer
  footer_length_is = ap number_of (ap (take 4) behind ∙ take_at a.size magic 4 a.four) ∙ a.is_size

  last_length : length (before ++ a.size) ≡ length bytes - 4
  last_length = omega (arith, all_length, before_length, a.four, length-append before a.size)

  in_three : bytes ≡ (before ++ a.size) ++ magic
  in_three = in_two ∙ sym (append_assoc before a.size magic)

  pub has_frame : HasFrame bytes
  has_frame =
      record {
        long = omega (arith, all_length);
        front = ap (take 4) a.parts ∙ take_at magic (a.pages ++ (footer ++ (a.size ++ magic))) 4 refl;
        back = ap (drop (length bytes - 4)) in_three ∙ drop_at (before ++ a.size) magic (length bytes - 4) last_length;
        room = omega (arith, all_length, footer_length_is);
      }

-- and its parts, from a frame
module _ (bytes : List ℕ) (h : HasFrame bytes) where
  pages_of : List ℕ
  pages_of = take (footer_place bytes - 4) (drop 4 bytes)

  size_of : List ℕ
  size_of = take 4 (drop (length bytes - 8) bytes)

  from_footer : drop (footer_place bytes) bytes ≡ footer_of bytes ++ drop (length bytes - 8) bytes
  from_footer =
      let e : footer_place bytes + footer_length bytes ≡ length bytes - 8 = omega (arith, h.room) in
      sym (take-append-drop (footer_length bytes) (drop (footer_place bytes) bytes)) ∙ ap (λ (z : List ℕ). footer_of bytes ++ z) (drop-drop (footer_length bytes) (footer_place bytes) bytes ∙ ap (λ (k : ℕ). drop k bytes) e)

  from_size : drop (length bytes - 8) bytes ≡ size_of ++ magic
  unfolding size_of
  from_size =
      let e : length bytes - 8 + 4 ≡ length bytes - 4 = omega (arith, h.long) in
      sym (take-append-drop 4 (drop (length bytes - 8) bytes)) ∙ ap (λ (z : List ℕ). size_of ++ z) (drop-drop 4 (length bytes - 8) bytes ∙ ap (λ (k : ℕ). drop k bytes) e ∙ h.back)

  from_pages : drop 4 bytes ≡ pages_of ++ drop (footer_place bytes) bytes
  unfolding pages_of
  from_pages =
      let e : 4 + (footer_place bytes - 4) ≡ footer_place bytes = omega (arith, h.room, h.long) in
      sym (take-append-drop (footer_place bytes - 4) (drop 4 bytes)) ∙ ap (λ (z : List ℕ). pages_of ++ z) (drop-drop (footer_place bytes - 4) 4 bytes ∙ ap (λ (k : ℕ). drop k bytes) e)

  pub is_framed : IsFramed bytes (footer_place bytes) (footer_of bytes)
  unfolding pages_of size_of
  is_framed =
      record {
        pages = pages_of;
        size = size_of;
        parts = sym (take-append-drop 4 bytes) ∙ ap (λ (z : List ℕ). z ++ drop 4 bytes) h.front ∙ ap (λ (z : List ℕ). magic ++ z) (from_pages ∙ ap (λ (z : List ℕ). pages_of ++ z) (from_footer ∙ ap (λ (z : List ℕ). footer_of bytes ++ z) from_size));
        four = length-take-le 4 (drop (length bytes - 8) bytes) (omega (arith, h.long, length-drop (length bytes - 8) bytes));
        is_size = sym (length-take-le (footer_length bytes) (drop (footer_place bytes) bytes) (omega (arith, h.room, length-drop (footer_place bytes) bytes)));
        is_place = omega (arith, h.room, h.long, length-take-le (footer_place bytes - 4) (drop 4 bytes) (omega (arith, h.room, h.long, length-drop 4 bytes)));
      }

pub are_told : FramesAreTold
are_told = record { told = has_frame; framed = is_framed }
