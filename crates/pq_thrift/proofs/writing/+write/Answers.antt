use Rattle.std.proofs.Common.{◌≡◌, ◌<◌, ◌≤◌, ◌^◌, ◌++◌, get_or, ℕ, ℤ, negsuc, length, pos, List, sym, ap, subst, ◌∙◌, append_assoc, arith, rules, SFits, w16, to_z, to_z-of_z, Vec, Global}
use Rattle.std.proofs.lemmas.Int.{ints}
use denote.Param.Weighed.{most, at_most}
use Rattle.pq_thrift.specs.declared.value.Thrift.{Thrift, Map, the_lemmas}
use Rattle.pq_thrift.proofs.value.Thrift.TheLaws.{the_size}
use Rattle.pq_thrift.specs.declared.value.Thrift.TheShapes.{weighed-Thrift-Struct-0-at-2, weighed-Thrift-Map-2-at-2}
use Rattle.pq_thrift.specs.Value.{view, map as map_value, values_view, pairs_view, fields_view}
use Rattle.pq_thrift.specs.Grammar.{count, pair_count}
use Rattle.pq_numbers.specs.Zigzag.{zigzag}
use Rattle.pq_thrift.specs.Spelling.{list_head, map_head, spell_values, spell_pairs, spell_fields, ValuesFit, PairsFit, FieldsFit}
use Rattle.pq_thrift.proofs.Spelled.{map_types_below}
use Rattle.pq_thrift.proofs.Writes.{count_is, pair_count_is, values_done, next_pair_writable, pairs_done, next_field_writable, fields_more, fields_done}
use Rattle.pq_thrift.proofs.writing.+write.Goals as goal

zigzag_fits : (z : ℤ) → SFits w16 z → zigzag z < 2 ^ 16
zigzag_fits (pos n) f = omega (arith, ints)
zigzag_fits (negsuc n) f = omega (arith, ints)

pub push_list-returns-clause-spelled : goal.push_list-returns-clause-spelled
push_list-returns-clause-spelled t c =
    let vs = c.args.values.now.items in
    let same : c.deref-value-items.result.now ≡ vs = c.deref-value-items.ensures.value in
    let done = values_done c.loop-value.out.items c.args.number c.deref-value-items.result.now c.loop-value.value-index (c.push_list_head.new.out.items ++ spell_values (values_view c.deref-value-items.result.now)) c.loop-value-test.false c.loop-value.invariant in
    let size : c.len.result ≡ count (values_view vs) = c.len.ensures ∙ sym c.deref-value-items.ensures.len ∙ ap length same ∙ sym (count_is vs) in
    done.0 ∙ rw (same, c.in_ok-push_list_head.ensures.ok, size) (append_assoc c.args.out.now.items (list_head c.args.number (count (values_view vs))) (spell_values (values_view vs)))

pub push_list-returns-clause-fits : goal.push_list-returns-clause-fits
push_list-returns-clause-fits t c =
    let vs = c.args.values.now.items in
    let same : c.deref-value-items.result.now ≡ vs = c.deref-value-items.ensures.value in
    let done = values_done c.loop-value.out.items c.args.number c.deref-value-items.result.now c.loop-value.value-index (c.push_list_head.new.out.items ++ spell_values (values_view c.deref-value-items.result.now)) c.loop-value-test.false c.loop-value.invariant in
    let size : c.len.result ≡ count (values_view vs) = c.len.ensures ∙ sym c.deref-value-items.ensures.len ∙ ap length same ∙ sym (count_is vs) in
    let small : c.len.result < 2 ^ 64 = search rules in
    (omega (arith, size, small), subst (λ (xs : List _). ValuesFit (values_view xs)) same done.1)

-- ---- maps

seen : (k v : ℕ) (ps : Vec (Thrift × Thrift) Global) → view (Map k v ps) ≡ map_value k v (pairs_view ps.items)
seen k v ps = search (rules, the_lemmas)

pub push_value-returns-in-Map-clause-spelled : goal.push_value-returns-in-Map-clause-spelled
push_value-returns-in-Map-clause-spelled t c = rw (c.in-Map.is, seen c.in-Map.keys c.in-Map.values c.in-Map.pairs) c.push_map.ensures.spelled

pub push_value-returns-in-Map-clause-fits : goal.push_value-returns-in-Map-clause-fits
push_value-returns-in-Map-clause-fits t c = rw (c.in-Map.is, seen c.in-Map.keys c.in-Map.values c.in-Map.pairs) c.push_map.ensures.fits

pub push_map-push_map_head-requires-clause-keys_low : goal.push_map-push_map_head-requires-clause-keys_low
push_map-push_map_head-requires-clause-keys_low t c = (map_types_below c.args.keys c.args.values (pairs_view c.args.pairs.now.items) c.requires.types c.requires.writable).0

pub push_map-push_map_head-requires-clause-values_low : goal.push_map-push_map_head-requires-clause-values_low
push_map-push_map_head-requires-clause-values_low t c = (map_types_below c.args.keys c.args.values (pairs_view c.args.pairs.now.items) c.requires.types c.requires.writable).1

-- a pair is no deeper than the deepest
abbrev pair_weight : Thrift × Thrift → ℕ
pair_weight = weighed-Thrift-Map-2-at-2.weight Thrift the_size

key_weighs : (p : Thrift × Thrift) → the_size p.0 ≤ pair_weight p
key_weighs p = omega arith

item_weighs : (p : Thrift × Thrift) → the_size p.1 ≤ pair_weight p
item_weighs p = omega arith

no_deeper_pair : (ps : List (Thrift × Thrift)) (i : ℕ) (p : Thrift × Thrift) → i < length ps → p ≡ get_or ps i p → pair_weight p ≤ most pair_weight ps
no_deeper_pair ps i p h is =
    let least : pair_weight (get_or ps i p) ≤ most pair_weight ps = at_most pair_weight ps i p h in
    let same : pair_weight p ≡ pair_weight (get_or ps i p) = ap pair_weight is in
    omega (arith, least, same)

pub push_map-push_value-requires : goal.push_map-push_value-requires
push_map-push_value-requires t c =
    let p = c.pairs-item.result in
    let all = c.push_map_head.new.out.items ++ spell_pairs (pairs_view c.deref-key-items.result.now) in
    let less = no_deeper_pair c.deref-key-items.result.now c.pairs.key-index p c.pairs-test.true c.pairs-item.is in
    let same : most pair_weight c.deref-key-items.result.now ≡ most pair_weight c.args.pairs.now.items = ap (most pair_weight) c.deref-key-items.ensures.value in
    let ok = next_pair_writable c.pairs.out.items c.args.keys c.args.values c.deref-key-items.result.now c.pairs.key-index all p c.pairs-test.true c.pairs-item.is c.pairs.invariant in
    (omega (arith, c.decreases, less, same, key_weighs p), ok.0)

pub push_map-push_value-requires-in-pairs : goal.push_map-push_value-requires-in-pairs
push_map-push_value-requires-in-pairs t c =
    let p = c.pairs-item.result in
    let all = c.push_map_head.new.out.items ++ spell_pairs (pairs_view c.deref-key-items.result.now) in
    let less = no_deeper_pair c.deref-key-items.result.now c.pairs.key-index p c.pairs-test.true c.pairs-item.is in
    let same : most pair_weight c.deref-key-items.result.now ≡ most pair_weight c.args.pairs.now.items = ap (most pair_weight) c.deref-key-items.ensures.value in
    let ok = next_pair_writable c.pairs.out.items c.args.keys c.args.values c.deref-key-items.result.now c.pairs.key-index all p c.pairs-test.true c.pairs-item.is c.pairs.invariant in
    (omega (arith, c.decreases, less, same, item_weighs p), ok.1)

pub push_map-returns-clause-spelled : goal.push_map-returns-clause-spelled
push_map-returns-clause-spelled t c =
    let ps = c.args.pairs.now.items in
    let same : c.deref-key-items.result.now ≡ ps = c.deref-key-items.ensures.value in
    let done = pairs_done c.pairs.out.items c.args.keys c.args.values c.deref-key-items.result.now c.pairs.key-index (c.push_map_head.new.out.items ++ spell_pairs (pairs_view c.deref-key-items.result.now)) c.pairs-test.false c.pairs.invariant in
    let size : c.len.result ≡ pair_count (pairs_view ps) = c.len.ensures ∙ sym c.deref-key-items.ensures.len ∙ ap length same ∙ sym (pair_count_is ps) in
    done.0 ∙ rw (same, c.in_ok-push_map_head.ensures.ok, size) (append_assoc c.args.out.now.items (map_head c.args.keys c.args.values (pair_count (pairs_view ps))) (spell_pairs (pairs_view ps)))

pub push_map-returns-clause-fits : goal.push_map-returns-clause-fits
push_map-returns-clause-fits t c =
    let ps = c.args.pairs.now.items in
    let same : c.deref-key-items.result.now ≡ ps = c.deref-key-items.ensures.value in
    let done = pairs_done c.pairs.out.items c.args.keys c.args.values c.deref-key-items.result.now c.pairs.key-index (c.push_map_head.new.out.items ++ spell_pairs (pairs_view c.deref-key-items.result.now)) c.pairs-test.false c.pairs.invariant in
    let size : c.len.result ≡ pair_count (pairs_view ps) = c.len.ensures ∙ sym c.deref-key-items.ensures.len ∙ ap length same ∙ sym (pair_count_is ps) in
    let small : c.len.result < 2 ^ 64 = search rules in
    (omega (arith, size, small), subst (λ (xs : List _). PairsFit (pairs_view xs)) same done.1)

-- ---- fields

-- a field's value is no deeper than the deepest
abbrev weight : ℤ × Thrift → ℕ
weight = weighed-Thrift-Struct-0-at-2.weight Thrift the_size

weighs : (f : ℤ × Thrift) → the_size f.1 ≤ weight f
weighs f = omega arith

no_deeper : (fs : List (ℤ × Thrift)) (i : ℕ) (f : ℤ × Thrift) → i < length fs → f ≡ get_or fs i f → the_size f.1 ≤ most weight fs
no_deeper fs i f h is =
    let least : weight (get_or fs i f) ≤ most weight fs = at_most weight fs i f h in
    let same : weight f ≡ weight (get_or fs i f) = ap weight is in
    omega (arith, weighs f, least, same)

pub push_fields-push_in_field-requires : goal.push_fields-push_in_field-requires
push_fields-push_in_field-requires t c =
    let f = c.fields-item.result in
    let all = c.args.out.now.items ++ spell_fields (fields_view c.deref-id-items.result.now) (pos 0) in
    let less = no_deeper c.deref-id-items.result.now c.fields.id-index f c.fields-test.true c.fields-item.is in
    let same : most weight c.deref-id-items.result.now ≡ most weight c.args.fields.now.items = ap (most weight) c.deref-id-items.ensures.value in
    (omega (arith, c.decreases, less, same), next_field_writable c.fields.out.items (to_z w16 c.fields.last-bits) c.deref-id-items.result.now c.fields.id-index all f c.fields-test.true c.fields-item.is c.fields.invariant)

pub push_fields-fields-preserved : goal.push_fields-fields-preserved
push_fields-fields-preserved t c =
    let f = c.fields-item.result in
    let fits : SFits w16 f.0 = search rules in
    let all = c.args.out.now.items ++ spell_fields (fields_view c.deref-id-items.result.now) (pos 0) in
    let went_on = fields_more c.fields.out.items (to_z w16 c.fields.last-bits) c.deref-id-items.result.now c.fields.id-index all f c.fields-test.true c.fields-item.is (zigzag_fits f.0 fits, c.in_ok-push_in_field.ensures.fits, tt) c.fields.invariant in
    rw (c.in_ok-push_in_field.ensures.spelled, c.in_ok-push_field_head.ensures.ok, c.field_kind.ensures) (simp to_z-of_z went_on)

pub push_fields-returns-clause-spelled : goal.push_fields-returns-clause-spelled
push_fields-returns-clause-spelled t c =
    let all = c.args.out.now.items ++ spell_fields (fields_view c.deref-id-items.result.now) (pos 0) in
    let done = fields_done c.fields.out.items (to_z w16 c.fields.last-bits) c.deref-id-items.result.now c.fields.id-index all c.fields-test.false c.fields.invariant in
    c.in_ok-push.ensures.items ∙ done.0 ∙ ap (λ (fs : List (ℤ × Thrift)). c.args.out.now.items ++ spell_fields (fields_view fs) (pos 0)) c.deref-id-items.ensures.value

pub push_fields-returns-clause-fits : goal.push_fields-returns-clause-fits
push_fields-returns-clause-fits t c =
    let all = c.args.out.now.items ++ spell_fields (fields_view c.deref-id-items.result.now) (pos 0) in
    let done = fields_done c.fields.out.items (to_z w16 c.fields.last-bits) c.deref-id-items.result.now c.fields.id-index all c.fields-test.false c.fields.invariant in
    subst (λ (fs : List (ℤ × Thrift)). FieldsFit (fields_view fs)) c.deref-id-items.ensures.value done.1
