-- The struct at the front, whole.
use Rattle.std.proofs.Common.{◌≡◌, ℕ, ◌-◌, ◌≤◌, List, ◌++◌, length, take, drop, Result, Ok, Err, refl, sym, ap, subst, ◌∙◌, inl, inr, arith}
use Rattle.std.specs.Prelude.{IfOk}
use Rattle.std.proofs.lemmas.Bool.{cases_lt}
use Rattle.std.proofs.lemmas.List.{take_at, drop_at, length-append, length-drop}
use Rattle.columns_base.specs.declared.error.Error.{Error}
use Rattle.columns_base.specs.declared.error.Error.TheVariants as errors
use Rattle.columns_base.specs.declared.error.S.TheVariants.{S1}
use Rattle.columns_base.specs.declared.error.N.TheVariants.{N7}
use Rattle.pq_thrift.specs.declared.fault.Fault.{Fault}
use Rattle.pq_thrift.specs.declared.fault.Fault.TheVariants.{Outside, Deep}
use Rattle.pq_thrift.specs.declared.kind.Kind.TheVariants as kinds
use Rattle.pq_thrift.specs.declared.value.Thrift.{Thrift}
use Rattle.pq_thrift.specs.Outcome.{ReadsAs}
use Rattle.pq_thrift.specs.Value.{Value, view}
use Rattle.pq_thrift.specs.Reading.{thrift_at, max_depth}
use Rattle.pq_thrift.specs.Grammar.{Spells, depth}
use Rattle.pq_thrift.specs.Nesting.{NestsPast, IsOutside}
use Rattle.pq_thrift.specs.Spelling.{IsStruct, IsWritable}
use Rattle.pq_thrift.proofs.Takes.{value_takes}
use Rattle.pq_thrift.proofs.Writable.{can_be_written}
use Rattle.pq_thrift.proofs.Again.{struct_again}
use Rattle.pq_thrift.proofs.Deep.{nests, too_deep}
use Rattle.pq_thrift.proofs.Past.{value_past}

left_at : (bytes text rest : List ℕ) → bytes ≡ text ++ rest → drop (length bytes - length rest) bytes ≡ rest
left_at bytes text rest e =
    let n : length text ≡ length bytes - length rest = omega (arith, ap length e, length-append text rest) in
    ap (drop (length bytes - length rest)) e ∙ drop_at text rest (length bytes - length rest) n

-- what a reader left is what lies behind what it took
pub left : (bytes : List ℕ) (v : Value) (rest : List ℕ) → thrift_at bytes ≡ Ok (v, rest) → drop (length bytes - length rest) bytes ≡ rest
left bytes v rest e =
    let took = value_takes max_depth kinds.Struct bytes v rest e in
    left_at bytes took.text rest took.parts

is_found_at : (bytes : List ℕ) (v : Value) (n : ℕ) → n ≤ length bytes → thrift_at bytes ≡ Ok (v, drop n bytes) → (n ≤ length bytes) × Spells (take n bytes) v × (depth v ≤ max_depth)
is_found_at bytes v n within e =
    let took = value_takes max_depth kinds.Struct bytes v (drop n bytes) e in
    let len : length took.text ≡ n = omega (arith, ap length took.parts, length-append took.text (drop n bytes), length-drop n bytes) in
    let front : take n bytes ≡ took.text = ap (take n) took.parts ∙ take_at took.text (drop n bytes) n len in
    (within, subst (λ (t : List ℕ). Spells t v) (sym front) took.spells.0, took.spells.1)

pub is_found : (bytes : List ℕ) (r : Result (Thrift × ℕ) Error) → IfOk r (λ x. x.1 ≤ length bytes) → ReadsAs bytes r (thrift_at bytes) → IfOk r (λ x. (x.1 ≤ length bytes) × Spells (take x.1 bytes) (view x.0) × (depth (view x.0) ≤ max_depth))
is_found bytes (Ok x) within given = is_found_at bytes (view x.0) x.1 within given
is_found bytes (Err e) within given = tt

along : (bytes : List ℕ) (r : Result (Thrift × ℕ) Error) (read other : Result (Value × List ℕ) Fault) → read ≡ other → ReadsAs bytes r read → ReadsAs bytes r other
along bytes r read other e given = subst (λ (x : Result (Value × List ℕ) Fault). ReadsAs bytes r x) e given

pub is_read : (bytes : List ℕ) (r : Result (Thrift × ℕ) Error) → ReadsAs bytes r (thrift_at bytes) → (v : Value) (text rest : List ℕ) → Spells text v → depth v ≤ max_depth → bytes ≡ text ++ rest → ReadsAs bytes r (Ok (v, rest))
is_read bytes r given v text rest h deep e = along bytes r (thrift_at bytes) (Ok (v, rest)) (ap thrift_at e ∙ struct_again max_depth v text rest h deep) given

-- which fault an answer tells of
deep_given : (bytes : List ℕ) (r : Result (Thrift × ℕ) Error) (read : Result (Value × List ℕ) Fault) → ReadsAs bytes r read → r ≡ Err (errors.NotYetImplemented N7) → read ≡ Err Deep
deep_given bytes r read given e =
    let here : ReadsAs bytes (Err (errors.NotYetImplemented N7)) read = subst (λ (x : Result (Thrift × ℕ) Error). ReadsAs bytes x read) e given in
    here.1

outside_given : (bytes : List ℕ) (r : Result (Thrift × ℕ) Error) (read : Result (Value × List ℕ) Fault) → ReadsAs bytes r read → r ≡ Err (errors.OutOfSpec S1) → read ≡ Err Outside
outside_given bytes r read given e =
    let here : ReadsAs bytes (Err (errors.OutOfSpec S1)) read = subst (λ (x : Result (Thrift × ℕ) Error). ReadsAs bytes x read) e given in
    here.1

pub is_deep : (bytes : List ℕ) (r : Result (Thrift × ℕ) Error) → ReadsAs bytes r (thrift_at bytes) → r ≡ Err (errors.NotYetImplemented N7) → NestsPast max_depth kinds.Struct bytes
is_deep bytes r given e = nests max_depth kinds.Struct bytes (deep_given bytes r (thrift_at bytes) given e)

pub is_refused : (bytes : List ℕ) (r : Result (Thrift × ℕ) Error) → ReadsAs bytes r (thrift_at bytes) → NestsPast max_depth kinds.Struct bytes → ReadsAs bytes r (Err Deep)
is_refused bytes r given h = along bytes r (thrift_at bytes) (Err Deep) (too_deep max_depth kinds.Struct bytes h) given

-- ---- outside of the grammar

abbrev bad : Fault → Result (Value × List ℕ) Fault
bad f = Err f

differ : bad Deep ≡ bad Outside → ⊥
differ e = cc

is_none : (x : Value × List ℕ) → Ok x ≡ bad Outside → ⊥
is_none x e = cc

pub spells_no_fault : (bytes text rest : List ℕ) (v : Value) → thrift_at bytes ≡ Err Outside → bytes ≡ text ++ rest → Spells text v → ⊥
spells_no_fault bytes text rest v fault e h =
    elim (cases_lt max_depth (depth v)) [
      | inl past ↦
          let there : thrift_at bytes ≡ Err Deep = ap thrift_at e ∙ value_past max_depth v kinds.Struct text rest h past in
          absurd (differ (sym there ∙ fault))
      | inr fits ↦
          let there : thrift_at bytes ≡ Ok (v, rest) = ap thrift_at e ∙ struct_again max_depth v text rest h fits in
          absurd (is_none (v, rest) (sym there ∙ fault))
    ]

outside_from : (bytes : List ℕ) → thrift_at bytes ≡ Err Outside → IsOutside bytes
outside_from bytes fault = record {
  spells_none = λ text rest v e h. spells_no_fault bytes text rest v fault e h;
  shallow = λ n. differ (sym (too_deep max_depth kinds.Struct bytes n) ∙ fault);
}

fault_from : (bytes : List ℕ) (read : Result (Value × List ℕ) Fault) → thrift_at bytes ≡ read → IsOutside bytes → read ≡ Err Outside
fault_from bytes (Ok x) e h =
    let took = value_takes max_depth kinds.Struct bytes x.0 x.1 e in
    absurd (h.spells_none took.text x.1 x.0 took.parts took.spells.0)
fault_from bytes (Err Outside) e h = refl
fault_from bytes (Err Deep) e h = absurd (h.shallow (nests max_depth kinds.Struct bytes e))

pub is_outside : (bytes : List ℕ) (r : Result (Thrift × ℕ) Error) → ReadsAs bytes r (thrift_at bytes) → r ≡ Err (errors.OutOfSpec S1) → IsOutside bytes
is_outside bytes r given e = outside_from bytes (outside_given bytes r (thrift_at bytes) given e)

pub is_out : (bytes : List ℕ) (r : Result (Thrift × ℕ) Error) → ReadsAs bytes r (thrift_at bytes) → IsOutside bytes → ReadsAs bytes r (Err Outside)
is_out bytes r given h = along bytes r (thrift_at bytes) (Err Outside) (fault_from bytes (thrift_at bytes) refl h) given

-- ---- what is read can be written

pub can_write : (bytes : List ℕ) (r : Result (Thrift × ℕ) Error) → IfOk r (λ x. (x.1 ≤ length bytes) × Spells (take x.1 bytes) (view x.0) × (depth (view x.0) ≤ max_depth)) → IfOk r (λ x. IsStruct (view x.0) × IsWritable (view x.0))
can_write bytes (Ok x) h = can_be_written (view x.0) (take x.1 bytes) h.1
can_write bytes (Err e) h = tt
