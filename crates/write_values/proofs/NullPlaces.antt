-- A column of nulls alone has no values.
use Rattle.std.proofs.Common.{◌≡◌, ℕ, List, [], map, refl, sym, subst, append-nil}
use Rattle.shredding.specs.Slot.{Value}
use Rattle.pq_tree.specs.Physical.{Physical, int32}
use Rattle.write_values.specs.declared.measured.Measured.{Measured}
use Rattle.write_values.specs.Rows.{AppendsPlain, Measures, adds-none}

-- no value is counted, and no byte
abbrev pub nothing_measured : Measured
nothing_measured = record { values = 0; plain = 0 }

pub none_measured : (p : Physical) (count : ℕ) (stored : ℕ → Value) (places : List ℕ) → places ≡ [] → Measures p count stored places nothing_measured
none_measured p count stored places e =
    let a = adds-none p count stored nothing_measured in
    subst (λ (xs : List ℕ). Measures p count stored xs nothing_measured) (sym e) (record { values = a.values refl; plain = a.plain refl; within = a.within })

-- and none is spelled
pub none_appended : (p : Physical) (out : List ℕ) (stored : ℕ → Value) (places : List ℕ) → p ≡ int32 → places ≡ [] → AppendsPlain p out out (map stored places)
none_appended p out stored places q e =
    subst (λ (r : Physical). AppendsPlain r out out (map stored places)) (sym q)
    (subst (λ (xs : List ℕ). AppendsPlain int32 out out (map stored xs)) (sym e) (record { text = []; parts = sym (append-nil out); spelled = refl }))
