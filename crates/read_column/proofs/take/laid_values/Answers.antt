use Rattle.std.proofs.Common.{inl, inr, ap}
use Rattle.read_column.specs.Opened.{encoding_by}
use Rattle.read_column.proofs.take.laid_values.Goals.{in-Dictionary, in-Delta}
use Rattle.read_column.proofs.take.laid_values.Goals as goal

pub returns-in-Ok-clause-ok : goal.returns-in-Ok-clause-ok
returns-in-Ok-clause-ok c items are = elim c.match-page.branch [
  | in-Dictionary w ↦ rw w.in-Dictionary.is (rw (← w.laid-is, c.in-Ok.is) at w.values_at-laid.ensures.ok)
  | in-Delta w ↦ (
      let turned = rw (← w.laid-is, c.in-Ok.is) at w.turned_values-laid.ensures.ok items are in
      elim w.in-Delta.is [
        | inl numbers ↦ rw numbers turned
        | inr lengths ↦ rw lengths turned
      ])
]

pub returns-in-Err-clause-err : goal.returns-in-Err-clause-err
returns-in-Err-clause-err c items are = elim c.match-page.branch [
  | in-Dictionary w ↦ elim (rw (← w.laid-is, c.in-Err.is) at w.values_at-laid.ensures.err) [
    | inl memory ↦ inl memory
    | inr s3 ↦ inr (inl (s3.0, s3.1, ap encoding_by w.in-Dictionary.is))
  ]
  | in-Delta w ↦ elim (rw (← w.laid-is, c.in-Err.is) at w.turned_values-laid.ensures.err items are) [
    | inl memory ↦ inl memory
    | inr why ↦ elim w.in-Delta.is [
      | inl numbers ↦ inr (inr (inl (ap encoding_by numbers), why))
      | inr lengths ↦ inr (inr (inr (ap encoding_by lengths), why))
    ]
  ]
]
