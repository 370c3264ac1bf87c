-- Worked examples of encodings.
use Rattle.std.proofs.Common.{◌≡◌, ℕ, ◌*◌, ◌^◌, ◌<◌, ◌≤◌, ◌-◌, nat_abs, ℤ, pos, negsuc, true, false, List, [], ◌∷◌, ◌++◌, map, length, is_some, nat_eq, drop, replicate, sum, Some, None, refl, ap, ◌∙◌, inl, inr, arith}
use Rattle.std.proofs.lemmas.List.Elements.{All-from_recursion}
use Rattle.std.specs.Int.{w32}
use Rattle.shredding.specs.Slot.{Value, truth, number, bytes}
use Rattle.pq_numbers.specs.Varint.{IsNumber}
use Rattle.pq_numbers.specs.Zigzag.{IsSigned}
use Rattle.pq_numbers.specs.Bits.{unpacked}
use Rattle.pq_runs.specs.Delta.{last, Blocks, block}
use Rattle.pq_files.specs.Delta.{AreDeltas, AreDeltaLengths}
use Rattle.pq_files.specs.Worked.{deltas, numbers, lengths, hello, world, foobar, letters, plain_strings, entry, header_2, body_2, header_of_deltas, body_of_deltas, eight_rows, pair, AreWorked, AreNotSpelled}
use Rattle.std.specs.List.{AllZip}
use Rattle.std.specs.Prelude.{slice_get}
use Rattle.std.proofs.lemmas.List.{length-append}
use Rattle.shredding.specs.Shape.{nothing, months, decimal, signed, Fits, at_leaf, in_list, in_struct}
use Rattle.shredding.specs.Share.{ColumnsAgree}
use Rattle.shredding.specs.Shred.{Triple, shred}
use Rattle.pq_numbers.specs.Texts.{Begins}
use Rattle.pq_runs.specs.Runs.{no_bits, last_copies}
use Rattle.pq_tree.specs.Physical.{int32, byte_array, fixed}
use Rattle.pq_metadata.proofs.Injective.{pos_same}
use Rattle.pq_files.specs.FirstFile.{schema, the_leaf, triples}
use Rattle.pq_files.specs.Indices.{IsIndexed}
use Rattle.pq_files.specs.Levels.{HasLevels}
use Rattle.pq_files.specs.Page.{IsPage, plain, delta}
use Rattle.pq_files.specs.PageReasons.{IsOutside}
use Rattle.pq_files.specs.Plain.{InARow, IsPlain}
use Rattle.pq_files.specs.Room.{footer_room, planned_footer, V3}
use Rattle.pq_files.specs.Stored.{IsStored, HoldsDecimal}
use Rattle.pq_files.specs.WrittenExample.{out_groups}
use Rattle.pq_files.specs.RowReasons.{BreaksIn}
use Rattle.pq_files.proofs.FirstFile.{one_bit, two_bits, repetitions, definitions}

-- ---- numbers

small : (n : ℕ) → n < 128 → IsNumber (n ∷ []) n
small n h = record { digits = inl (h, refl, refl); short = omega arith; below = omega (arith, h) }

pub size_128 : IsNumber (128 ∷ 1 ∷ []) 128
size_128 = record { digits = inr (omega arith, 1, refl, inl (omega arith, refl, refl)); short = omega arith; below = omega arith }

-- ---- deltas

pub seven : IsSigned (2 ^ 64) (14 ∷ []) (pos 7)
seven = record { n = 14; number = small 14 (omega arith); fits = omega arith; is = refl }

pub less_two : IsSigned (2 ^ 64) (3 ∷ []) (negsuc 1)
less_two = record { n = 3; number = small 3 (omega arith); fits = omega arith; is = refl }

deltas_block : Blocks true 4 32 (3 ∷ 2 ∷ 0 ∷ 0 ∷ 0 ∷ 192 ∷ 63 ∷ []) (negsuc 1 ∷ negsuc 1 ∷ negsuc 1 ∷ pos 1 ∷ pos 1 ∷ pos 1 ∷ pos 1 ∷ [])
deltas_block =
    block (3 ∷ []) (2 ∷ 0 ∷ 0 ∷ 0 ∷ []) (192 ∷ 63 ∷ []) [] (negsuc 1) (unpacked 2 7 (192 ∷ 63 ∷ [])) [] less_two refl (omega arith)
    (last 2 7 (0 ∷ 0 ∷ 0 ∷ []) (192 ∷ 63 ∷ []) (omega arith) (omega arith) (omega arith) (omega arith) (omega arith) (inl refl))
    (inl refl) Blocks.no_more

deltas_are : AreDeltas w32 deltas numbers
deltas_are = (
  pos 7 ∷ pos 5 ∷ pos 3 ∷ pos 1 ∷ pos 2 ∷ pos 3 ∷ pos 4 ∷ pos 5 ∷ [],
  record {
    size = 128;
    miniblocks = 4;
    count = 8;
    first = pos 7;
    size_text = 128 ∷ 1 ∷ [];
    miniblocks_text = 4 ∷ [];
    count_text = 8 ∷ [];
    first_text = 14 ∷ [];
    body = 3 ∷ 2 ∷ 0 ∷ 0 ∷ 0 ∷ 192 ∷ 63 ∷ [];
    parts = refl;
    has_size = size_128;
    has_miniblocks = small 4 (omega arith);
    has_count = small 8 (omega arith);
    has_first = seven;
    size_fits = (omega arith, refl);
    n = 32;
    divides = refl;
    n_fits = (omega arith, refl);
    counts = refl;
    deltas = negsuc 1 ∷ negsuc 1 ∷ negsuc 1 ∷ pos 1 ∷ pos 1 ∷ pos 1 ∷ pos 1 ∷ [];
    blocks = deltas_block;
    are = refl;
  },
  refl,
)

-- ---- delta lengths

five : IsSigned (2 ^ 64) (10 ∷ []) (pos 5)
five = record { n = 10; number = small 10 (omega arith); fits = omega arith; is = refl }

nought : IsSigned (2 ^ 64) (0 ∷ []) (pos 0)
nought = record { n = 0; number = small 0 (omega arith); fits = omega arith; is = refl }

lengths_block : Blocks false 4 32 (0 ∷ 1 ∷ 0 ∷ 0 ∷ 0 ∷ 2 ∷ 0 ∷ 0 ∷ 0 ∷ []) (pos 0 ∷ pos 1 ∷ pos 0 ∷ [])
lengths_block =
    block (0 ∷ []) (1 ∷ 0 ∷ 0 ∷ 0 ∷ []) (2 ∷ 0 ∷ 0 ∷ 0 ∷ []) [] (pos 0) (unpacked 1 3 (2 ∷ 0 ∷ 0 ∷ 0 ∷ [])) [] nought refl (omega arith)
    (last 1 3 (0 ∷ 0 ∷ 0 ∷ []) (2 ∷ 0 ∷ 0 ∷ 0 ∷ []) (omega arith) (omega arith) (omega arith) (omega arith) (omega arith) (inr refl))
    (inl refl) Blocks.no_more

lengths_are : AreDeltaLengths (lengths ++ (hello ++ world ++ foobar ++ letters)) (map bytes (hello ∷ world ∷ foobar ∷ letters ∷ []))
lengths_are =
    record {
      strings = hello ∷ world ∷ foobar ∷ letters ∷ [];
      short = All-from_recursion (λ s. length s < 2 ^ 31) (hello ∷ world ∷ foobar ∷ letters ∷ []) (omega arith, (omega arith, (omega arith, (omega arith, tt))));
      head = lengths;
      lengths =
          record {
            size = 128;
            miniblocks = 4;
            count = 4;
            first = pos 5;
            size_text = 128 ∷ 1 ∷ [];
            miniblocks_text = 4 ∷ [];
            count_text = 4 ∷ [];
            first_text = 10 ∷ [];
            body = 0 ∷ 1 ∷ 0 ∷ 0 ∷ 0 ∷ 2 ∷ 0 ∷ 0 ∷ 0 ∷ [];
            parts = refl;
            has_size = size_128;
            has_miniblocks = small 4 (omega arith);
            has_count = small 4 (omega arith);
            has_first = five;
            size_fits = (omega arith, refl);
            n = 32;
            divides = refl;
            n_fits = (omega arith, refl);
            counts = refl;
            deltas = pos 0 ∷ pos 1 ∷ pos 0 ∷ [];
            blocks = lengths_block;
            are = refl;
          };
      parts = refl;
      are = refl;
    }

-- ---- plain values and indices

strings_are : IsPlain byte_array plain_strings (bytes hello ∷ bytes [] ∷ [])
strings_are = (
  5 ∷ 0 ∷ 0 ∷ 0 ∷ hello,
  0 ∷ 0 ∷ 0 ∷ 0 ∷ [],
  record { head = 5 ∷ 0 ∷ 0 ∷ 0 ∷ []; four = refl; size = refl; parts = refl },
  (0 ∷ 0 ∷ 0 ∷ 0 ∷ [], [], record { head = 0 ∷ 0 ∷ 0 ∷ 0 ∷ []; four = refl; size = refl; parts = refl }, refl, refl),
  refl,
)

entries_are : IsIndexed (entry ∷ []) (0 ∷ []) (entry ∷ entry ∷ entry ∷ [])
entries_are = (0 ∷ 0 ∷ 0 ∷ [], (omega arith, no_bits 3 refl), (refl, (refl, (refl, tt))))

-- ---- a page of version 2

version_2 : IsPage the_leaf None header_2 body_2 triples
unfolding shred
version_2 =
    record {
      sections = record { repetition = 3 ∷ 2 ∷ []; definition = 3 ∷ 79 ∷ 2 ∷ []; values = 1 ∷ 0 ∷ 0 ∷ 0 ∷ 2 ∷ 0 ∷ 0 ∷ 0 ∷ [] };
      split = record { repetition = refl; definition = refl; parts = refl };
      runs = tt;
      repetitions = repetitions;
      definitions = definitions;
      present = All-from_recursion (λ t. is_some t.value ≡ nat_eq t.definition 3) triples (refl, (refl, (refl, (refl, (refl, tt)))));
      encoding = plain;
      has_encoding = refl;
      values =
          record {
            text = 1 ∷ 0 ∷ 0 ∷ 0 ∷ 2 ∷ 0 ∷ 0 ∷ 0 ∷ [];
            rest = [];
            parts = refl;
            spells = (1 ∷ 0 ∷ 0 ∷ 0 ∷ [], 2 ∷ 0 ∷ 0 ∷ 0 ∷ [], (refl, refl), (2 ∷ 0 ∷ 0 ∷ 0 ∷ [], [], (refl, refl), refl, refl), refl);
          };
      counted = (refl, refl);
      begins_row = refl;
    }

zeros : HasLevels 1 (16 ∷ 0 ∷ []) (replicate 8 0)
zeros =
    record {
      width = 1;
      is_width = one_bit;
      runs = record { text = 16 ∷ 0 ∷ []; rest = []; parts = refl; spells = last_copies 8 8 (16 ∷ []) (0 ∷ []) (small 16 (omega arith)) refl (omega arith) (omega arith) };
      within = All-from_recursion (λ level. level ≤ 1) (replicate 8 0) (omega arith, (omega arith, (omega arith, (omega arith, (omega arith, (omega arith, (omega arith, (omega arith, tt))))))));
    }

threes : HasLevels 3 (16 ∷ 3 ∷ []) (replicate 8 3)
threes =
    record {
      width = 2;
      is_width = two_bits;
      runs = record { text = 16 ∷ 3 ∷ []; rest = []; parts = refl; spells = last_copies 8 8 (16 ∷ []) (3 ∷ []) (small 16 (omega arith)) refl (omega arith) (omega arith) };
      within = All-from_recursion (λ level. level ≤ 3) (replicate 8 3) (omega arith, (omega arith, (omega arith, (omega arith, (omega arith, (omega arith, (omega arith, (omega arith, tt))))))));
    }

nested_deltas : IsPage the_leaf None header_of_deltas body_of_deltas eight_rows
nested_deltas =
    record {
      sections = record { repetition = 16 ∷ 0 ∷ []; definition = 16 ∷ 3 ∷ []; values = deltas };
      split = record { repetition = refl; definition = refl; parts = refl };
      runs = tt;
      repetitions = zeros;
      definitions = threes;
      present = All-from_recursion (λ t. is_some t.value ≡ nat_eq t.definition 3) eight_rows (refl, (refl, (refl, (refl, (refl, (refl, (refl, (refl, tt))))))));
      encoding = delta;
      has_encoding = refl;
      values = record { text = deltas; rest = []; parts = refl; spells = inl (refl, deltas_are) };
      counted = (refl, refl);
      begins_row = refl;
    }

footers : footer_room (planned_footer schema [] out_groups) ≡ 4977
footers = refl

largest : ¬ V3 schema [] (2 ^ 31 - 1) out_groups
unfolding shred
largest (inl f) = omega (arith, f, footers)
largest (inr (inl s)) = omega (arith, s)
largest (inr (inr (inl r))) = omega (arith, r)
largest (inr (inr (inr (inl (inl (inl e)))))) = e
largest (inr (inr (inr (inl (inl (inr (inl (inl p)))))))) = omega (arith, p)
largest (inr (inr (inr (inl (inl (inr (inl (inr p)))))))) = p
largest (inr (inr (inr (inl (inl (inr (inr n))))))) = omega (arith, n)
largest (inr (inr (inr (inl (inr c))))) = c
largest (inr (inr (inr (inr g)))) = g

pub are_worked : AreWorked
are_worked =
    record {
      packed = refl;
      deltas_are = deltas_are;
      lengths_are = lengths_are;
      strings_are = strings_are;
      wide_are = (254 ∷ replicate 7 255, 2 ∷ 1 ∷ replicate 6 0, (refl, refl), (2 ∷ 1 ∷ replicate 6 0, [], (refl, refl), refl, refl), refl);
      fixed_are = (1 ∷ 2 ∷ 3 ∷ [], 4 ∷ 5 ∷ 6 ∷ [], (refl, refl), (4 ∷ 5 ∷ 6 ∷ [], [], (refl, refl), refl, refl), refl);
      negative = (omega arith, omega arith, refl, refl);
      held = ((omega arith, omega arith, omega arith), (omega arith, omega arith, omega arith));
      truths_are = (refl, refl);
      entries_are = entries_are;
      none_are = ([], refl, tt);
      version_2 = version_2;
      nested_deltas = nested_deltas;
      rows = (refl, refl, refl);
      rooms = (refl, refl, refl);
      footers = footers;
      keys = (refl, refl);
      too_large = inr (inl (omega arith));
      largest = largest;
      starts = (refl, refl, refl, refl, refl, refl);
    }

-- ---- what is not spelled

four_each : (text : List ℕ) (vs : List Value) → InARow int32 text vs → length text ≡ 4 * length vs
four_each text [] h = ap length h
four_each text (number z ∷ vs) h = omega (arith, ap length h.4, length-append h.0 h.1, h.2.0, four_each h.1 vs h.3)
four_each text (truth b ∷ vs) h = absurd h.2
four_each text (bytes s ∷ vs) h = absurd h.2

pub plain_cut : (vs : List Value) → length vs ≡ 2 → Begins (IsPlain int32) (1 ∷ 0 ∷ 0 ∷ 0 ∷ 2 ∷ 0 ∷ 0 ∷ []) vs → ⊥
plain_cut vs n b = omega (arith, four_each b.text vs b.spells, n, ap length b.parts, length-append b.text b.rest)

no_entry : (ns : List ℕ) (vs : List Value) → 0 < length vs → AllZip (λ n v. slice_get [] n ≡ Some v) ns vs → ⊥
no_entry [] [] n z = omega (arith, n)
no_entry [] (v ∷ vs) n z = z
no_entry (m ∷ ns) [] n z = z
no_entry (m ∷ ns) (v ∷ vs) n z = none v z.0
  where
    none : (v : Value) → None ≡ Some v → ⊥
    none v e = cc e

past_entries : (vs : List Value) → length vs ≡ 1 → Begins (IsIndexed []) (0 ∷ []) vs → ⊥
past_entries vs n b = no_entry b.spells.0 vs (omega (arith, n)) b.spells.2

abbrev pub number_in : Value → ℤ
number_in (number z) = z
number_in v = pos 0

abbrev pub bytes_in : Value → List ℕ
bytes_in (bytes s) = s
bytes_in v = []

number_same : (y z : ℤ) → number y ≡ number z → y ≡ z
number_same y z e = ap number_in e

pub too_large : IsOutside (signed 8) int32 (number (pos 300))
too_large (truth b) h = h
too_large (bytes s) h = h
too_large (number z) h = small z h.1 (number_same (pos 300) z h.2)
  where
    small : (z : ℤ) → Fits 8 z → pos 300 ≡ z → ⊥
    small (pos n) f e = omega (arith, f, pos_same 300 n e)
    small (negsuc n) f e = cc e

no_months : IsOutside months (fixed 12) (bytes (replicate 11 0 ++ 1 ∷ []))
no_months (truth b) h = h
no_months (number z) h = h
no_months (bytes t) h = zeros (ap (λ s. drop 4 (bytes_in s)) h.3 ∙ h.2)
  where
    zeros : drop {A = ℕ} 4 (replicate 11 0 ++ 1 ∷ []) ≡ replicate 8 0 → ⊥
    zeros e = omega (arith, ap sum e)

lowest_first : ¬ IsStored decimal (fixed 2) (number (negsuc 299)) (bytes (212 ∷ 254 ∷ []))
lowest_first h = differ h.3
  where
    differ : negsuc 299 ≡ negsuc 11009 → ⊥
    differ e = omega (arith, ap (λ z. nat_abs z) e)

no_null : IsOutside nothing int32 (number (pos 0))
no_null v h = h

breaks : BreaksIn (in_list true (at_leaf true)) (pair 0 1 ∷ pair 1 3 ∷ [])
breaks = inl (λ m. omega (arith, m.before))

goes_on : ¬ BreaksIn (in_list true (at_leaf true)) (pair 0 3 ∷ pair 1 3 ∷ pair 0 0 ∷ pair 0 1 ∷ pair 0 2 ∷ [])
goes_on (inl f) = f (record { before = omega arith; after = omega arith })
goes_on (inr (inl f)) = f (record { before = omega arith; after = omega arith })
goes_on (inr (inr (inl f))) = f (record { before = omega arith; after = omega arith })
goes_on (inr (inr (inr (inl f)))) = f (record { before = omega arith; after = omega arith })
goes_on (inr (inr (inr (inr f)))) = f

disagree : ¬ ColumnsAgree (in_struct true 0 (at_leaf false)) (in_struct true 1 (at_leaf false)) (pair 0 1 ∷ []) (pair 0 0 ∷ [])
disagree e = omega (arith, ap (λ ts. first_definition ts) e)
  where
    first_definition : List Triple → ℕ
    first_definition [] = 0
    first_definition (t ∷ ts) = t.definition

pub are_not_spelled : AreNotSpelled
are_not_spelled = record { plain_cut = plain_cut; past_entries = past_entries; too_large = too_large; wrapped = (omega arith, omega arith, refl); lowest_first = lowest_first; too_wide = (λ h. absurd (omega (arith, h.2))); no_months = no_months; no_null = no_null; breaks = breaks; goes_on = goes_on; disagree = disagree }
