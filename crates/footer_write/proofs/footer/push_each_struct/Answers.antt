use Rattle.std.proofs.Common.{inl, inr, ◌≡◌, ◌<◌, ◌+◌, ℕ, List, ◌∷◌, length, get_or, drop, subst, arith}
use Rattle.std.proofs.lemmas.Grind.{common_steps}
use Rattle.pq_thrift.specs.declared.value.Thrift.{Thrift}
use Rattle.pq_thrift.specs.Spelling.{AreWritable, IsOfType, IsStruct}
use Rattle.pq_thrift.specs.Value.{Value, truth, int8, int16, int32, int64, double, binary, list, set, map, struct, values_view, view}
use Rattle.thrift_fields.proofs.Chains.{all_done, goes_on, starts}
use Rattle.footer_write.proofs.footer.push_each_struct.Goals as goal

is_struct : (v : Value) → IsOfType 12 v → IsStruct v
is_struct (struct fs) h = tt
is_struct (truth b) (inl h) = absurd (omega (arith, h))
is_struct (truth b) (inr h) = absurd (omega (arith, h))
is_struct (int8 z) h = absurd (omega (arith, h))
is_struct (int16 z) h = absurd (omega (arith, h))
is_struct (int32 z) h = absurd (omega (arith, h))
is_struct (int64 z) h = absurd (omega (arith, h))
is_struct (double s) h = absurd (omega (arith, h))
is_struct (binary s) h = absurd (omega (arith, h))
is_struct (list n vs) h = absurd (omega (arith, h))
is_struct (set n vs) h = absurd (omega (arith, h))
is_struct (map k n ps) h = absurd (omega (arith, h))

next : (vs : List Thrift) (i : ℕ) (v : Thrift) → i < length vs → v ≡ get_or vs i v → drop i vs ≡ v ∷ drop (i + 1) vs
next vs i v h e = grind (arith, common_steps)

first : (vs : List Thrift) (i : ℕ) (v : Thrift) → i < length vs → v ≡ get_or vs i v → AreWritable (values_view (drop i vs)) 12 → AreWritable (values_view (v ∷ drop (i + 1) vs)) 12
first vs i v h e w = subst (λ (xs : List Thrift). AreWritable (values_view xs) 12) (next vs i v h e) w

pub push_struct-requires-clause-is_struct : goal.push_struct-requires-clause-is_struct
push_struct-requires-clause-is_struct c = is_struct (view c.value-item.result) (first c.args.values.now c.values.value-index c.value-item.result c.values-test.true c.value-item.is c.values.invariant.writable).0

pub push_struct-requires-clause-writable : goal.push_struct-requires-clause-writable
push_struct-requires-clause-writable c = (first c.args.values.now c.values.value-index c.value-item.result c.values-test.true c.value-item.is c.values.invariant.writable).1

pub values-init : goal.values-init
values-init c = record { left = starts view c.args.values.now c.args.out.now.items; writable = c.requires }

pub values-preserved : goal.values-preserved
values-preserved c =
    record {
      left = goes_on c.value-item.result c.values-test.true c.value-item.is c.in_ok-push_struct.ensures.ok c.values.invariant.left;
      writable = (first c.args.values.now c.values.value-index c.value-item.result c.values-test.true c.value-item.is c.values.invariant.writable).2;
    }

pub returns-clause-ok : goal.returns-clause-ok
returns-clause-ok c = all_done c.values-test.false c.values.invariant.left
