-- A field at a place, one level opened.
use Rattle.std.proofs.Common.{◌≡◌, ℕ, zero, suc, ◌-◌, ◌<◌, List, Option, refl, arith}
use Rattle.columns_core.specs.Tree.{FieldTree}
use Rattle.schema_codec.specs.Parse.{◌>>=◌}
use Rattle.schema_fb.specs.Places.{Table, table_at, spend}
use Rattle.schema_fb.specs.Reading.{field_at}
use Rattle.schema_fb.specs.Steps.{field_in}

-- from its table, with what may still be read behind the field itself
abbrev pub opened : List ℕ → ℕ → ℕ → Table → Option (FieldTree × ℕ)
opened bytes depth left table = spend 1 left >>= λ rest. field_in (field_at bytes depth) bytes table rest

pub field_at-below : (bytes : List ℕ) (d place left : ℕ) → 0 < d → field_at bytes d place left ≡ (table_at bytes place >>= opened bytes (d - 1) left)
unfolding field_at
field_at-below bytes zero place left h = absurd (omega arith)
field_at-below bytes (suc d) place left h =
    let same : suc d - 1 ≡ d = omega arith in
    rw same refl
