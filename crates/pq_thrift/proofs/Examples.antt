-- The examples, computed.
use Rattle.std.proofs.Common.{◌≡◌, ℕ, ◌+◌, pos, negsuc, List, [], ◌∷◌, true, false, Ok, Err, refl, sym, ap, subst, ◌∙◌, length, arith}
use Rattle.std.proofs.lemmas.List.{append-nil}
use Rattle.pq_numbers.specs.Varint.{varint_up_to, digits}
use Rattle.pq_thrift.specs.declared.fault.Fault.TheVariants.{Outside}
use Rattle.pq_thrift.specs.declared.kind.Kind.TheVariants as kinds
use Rattle.pq_thrift.specs.Numbers.{signed_at, binary_at}
use Rattle.pq_thrift.specs.Value.{Value, truth, int8, int16, int32, int64, double, binary, list, set, map, struct, no_values, value, no_pairs, pair, no_fields, field}
use Rattle.pq_thrift.specs.Grammar.{Spells}
use Rattle.pq_thrift.specs.Reading.{list_head_at, map_head_at, field_head_at, values_at, pair_with, pairs_at, fields_at, list_with, map_with, struct_with, value_at, thrift_at, max_depth}
use Rattle.pq_thrift.specs.Spelling.{list_head, map_head, field_head}
use Rattle.pq_thrift.specs.Examples.{one, letters, eight, SpellsNone, AreSpelled, AreNot, AreDeep, AreWritten, AreOtherSpellings, AreWorked}
use Rattle.pq_thrift.proofs.Takes.{value_takes}
use Rattle.pq_thrift.proofs.Whole.{spells_no_fault}

-- what is read whole is spelled
pub spelled : (bytes : List ℕ) (v : Value) → thrift_at bytes ≡ Ok (v, []) → Spells bytes v
spelled bytes v e =
    let took = value_takes max_depth kinds.Struct bytes v [] e in
    subst (λ (t : List ℕ). Spells t v) (sym (took.parts ∙ append-nil took.text)) took.spells.0

-- bytes with a fault spell nothing
pub spells_none : (bytes : List ℕ) → thrift_at bytes ≡ Err Outside → SpellsNone bytes
spells_none bytes e = λ v h. spells_no_fault bytes bytes [] v e (sym (append-nil bytes)) h

are_spelled : AreSpelled
unfolding varint_up_to signed_at binary_at list_head_at map_head_at field_head_at values_at pair_with pairs_at fields_at list_with map_with struct_with value_at
are_spelled = record {
  empty = spelled (0 ∷ []) (struct no_fields) refl;
  yes = spelled (17 ∷ 0 ∷ []) (one (truth true)) refl;
  no = spelled (18 ∷ 0 ∷ []) (one (truth false)) refl;
  byte = spelled (19 ∷ 255 ∷ 0 ∷ []) (one (int8 (negsuc 0))) refl;
  short = spelled (20 ∷ 3 ∷ 0 ∷ []) (one (int16 (negsuc 1))) refl;
  word = spelled (21 ∷ 172 ∷ 2 ∷ 0 ∷ []) (one (int32 (pos 150))) refl;
  long = spelled (22 ∷ 1 ∷ 0 ∷ []) (one (int64 (negsuc 0))) refl;
  float = spelled (23 ∷ 0 ∷ 0 ∷ 0 ∷ 0 ∷ 0 ∷ 0 ∷ 240 ∷ 63 ∷ 0 ∷ []) (one (double eight)) refl;
  text = spelled (24 ∷ 2 ∷ 97 ∷ 98 ∷ 0 ∷ []) (one (binary letters)) refl;
  truths = spelled (25 ∷ 49 ∷ 1 ∷ 2 ∷ 0 ∷ 0 ∷ []) (one (list 1 (value (truth true) (value (truth false) (value (truth false) no_values))))) refl;
  numbers = spelled (26 ∷ 37 ∷ 2 ∷ 4 ∷ 0 ∷ []) (one (set 5 (value (int32 (pos 1)) (value (int32 (pos 2)) no_values)))) refl;
  nothing = spelled (25 ∷ 0 ∷ 0 ∷ []) (one (list 0 no_values)) refl;
  far = spelled (25 ∷ 243 ∷ 1 ∷ 7 ∷ 0 ∷ []) (one (list 3 (value (int8 (pos 7)) no_values))) refl;
  no_pair = spelled (27 ∷ 0 ∷ 0 ∷ []) (one (map 0 0 no_pairs)) refl;
  one_pair = spelled (27 ∷ 1 ∷ 133 ∷ 1 ∷ 97 ∷ 4 ∷ 0 ∷ []) (one (map 8 5 (pair (binary (97 ∷ [])) (int32 (pos 2)) no_pairs))) refl;
  inner = spelled (28 ∷ 0 ∷ 0 ∷ []) (one (struct no_fields)) refl;
  ids = spelled (5 ∷ 131 ∷ 0 ∷ 2 ∷ 37 ∷ 4 ∷ 0 ∷ []) (struct (field (negsuc 1) (int32 (pos 1)) (field (pos 0) (int32 (pos 2)) no_fields))) refl;
}

are_not : AreNot
unfolding varint_up_to signed_at binary_at list_head_at map_head_at field_head_at values_at pair_with pairs_at fields_at list_with map_with struct_with value_at
are_not = record {
  nothing = spells_none [] refl;
  unclosed = spells_none (21 ∷ 2 ∷ []) refl;
  no_type = spells_none (29 ∷ 0 ∷ 0 ∷ []) refl;
  no_end = spells_none (16 ∷ 0 ∷ []) refl;
  no_elements = spells_none (25 ∷ 16 ∷ 0 ∷ 0 ∷ []) refl;
  no_keys = spells_none (27 ∷ 1 ∷ 5 ∷ 2 ∷ 4 ∷ 0 ∷ []) refl;
  large_id = spells_none (5 ∷ 128 ∷ 128 ∷ 4 ∷ 2 ∷ 0 ∷ []) refl;
  large = spells_none (20 ∷ 128 ∷ 128 ∷ 4 ∷ 0 ∷ []) refl;
  past_ids = spells_none (5 ∷ 254 ∷ 255 ∷ 3 ∷ 2 ∷ 21 ∷ 2 ∷ 0 ∷ []) refl;
  cut = spells_none (24 ∷ 3 ∷ 97 ∷ 98 ∷ []) refl;
}

are_deep : AreDeep
are_deep = record { number = refl; empty = refl; empty_list = refl; one_number = refl; truths = refl; pairs = refl }

are_written : AreWritten
unfolding digits list_head map_head field_head
are_written = record { steps = refl; pairs = refl; no_pair = refl; truths = refl }

are_others : AreOtherSpellings
unfolding varint_up_to digits signed_at binary_at list_head_at list_head field_head_at field_head values_at fields_at list_with struct_with value_at
are_others =
    record {
      padded = (spelled (21 ∷ 130 ∷ 0 ∷ 0 ∷ []) (one (int32 (pos 1))) refl, λ w. one_more 3 (ap length w.exact));
      far = λ w. one_more 4 (ap length w.exact);
      near = record { exact = refl; spells = spelled (25 ∷ 19 ∷ 7 ∷ 0 ∷ []) (one (list 3 (value (int8 (pos 7)) no_values))) refl };
    }
  where
    one_more : (n : ℕ) → n + 1 ≡ n → ⊥
    one_more n e = omega (arith, e)

pub are_worked : AreWorked
are_worked = record { spelled = are_spelled; none = are_not; deep = are_deep; written = are_written; others = are_others }
