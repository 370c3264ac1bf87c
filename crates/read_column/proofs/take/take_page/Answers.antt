use Rattle.std.proofs.Common.{inl, inr, Some, None}
use Rattle.std.proofs.lemmas.Result.{IfErr-weaker, IfOk-weaker}
use Rattle.read_column.specs.Dictionary.{means}
use Rattle.read_column.proofs.Pairs.{items-laid, not-laid}
use Rattle.read_column.proofs.take.take_page.Goals as goal

pub returns-in-Err-clause-err : goal.returns-in-Err-clause-err
returns-in-Err-clause-err g c w before whole last k = inr (inl (rw (← c.stands_in_bytes.ensures.value) c.in-Err.ensures.err))

pub returns-in-Ok-Some-clause-ok : goal.returns-in-Ok-Some-clause-ok
returns-in-Ok-Some-clause-ok g c w before whole last k =
    let o = c.in-Ok.ensures.ok in
    let laid = rw c.in-Ok-Some.field-0-is at (c.in-Ok-Some.ensures.ok c.in-Ok.opened.pairs o.1) in
    let has = items-laid _ (means c.args.entries.now c.args.deltas) _ _ c.in-Ok.opened.open c.in-Ok.opened.pairs (Some c.in-Ok-Some.values) (rw c.stands_in_bytes.ensures.value at o.0) o.1 laid in
    IfOk-weaker c.take_values.result _ _ (λ q t. record { items = c.in-Ok.opened.pairs; values = c.in-Ok-Some.values.items; has = has; first = t.first; takes = t.takes; rows = t.rows }) (rw (c.header.ensures.is, c.deref.ensures.value) at (c.take_values.ensures.ok w before whole last k o.2))

pub returns-in-Ok-Some-clause-err : goal.returns-in-Ok-Some-clause-err
returns-in-Ok-Some-clause-err g c w before whole last k =
    let o = c.in-Ok.ensures.ok in
    let laid = rw c.in-Ok-Some.field-0-is at (c.in-Ok-Some.ensures.ok c.in-Ok.opened.pairs o.1) in
    let has = items-laid _ (means c.args.entries.now c.args.deltas) _ _ c.in-Ok.opened.open c.in-Ok.opened.pairs (Some c.in-Ok-Some.values) (rw c.stands_in_bytes.ensures.value at o.0) o.1 laid in
    IfErr-weaker c.take_values.result _ _ (λ e why. elim why [
      | inl memory ↦ inl memory
      | inr x ↦ inr (inr (inr (record { items = c.in-Ok.opened.pairs; values = c.in-Ok-Some.values.items; has = has; why = x })))
    ]) (rw (c.header.ensures.is, c.deref.ensures.value) at (c.take_values.ensures.err w before whole last k o.2))

pub returns-in-Ok-None-clause-ok : goal.returns-in-Ok-None-clause-ok
returns-in-Ok-None-clause-ok g c w before whole last k =
    let o = c.in-Ok.ensures.ok in
    let laid = rw c.in-Ok-None.field-0-is at (c.in-Ok-None.ensures.ok c.in-Ok.opened.pairs o.1) in
    let has = items-laid _ (means c.args.entries.now c.args.deltas) _ _ c.in-Ok.opened.open c.in-Ok.opened.pairs None (rw c.stands_in_bytes.ensures.value at o.0) o.1 laid in
    IfOk-weaker c.take_values-in-Ok-None.result _ _ (λ q t. record { items = c.in-Ok.opened.pairs; values = c.in-Ok.opened.open.values.now; has = has; first = t.first; takes = t.takes; rows = t.rows }) (rw c.header-in-Ok-None.ensures.is at (c.take_values-in-Ok-None.ensures.ok w before whole last k o.2))

pub returns-in-Ok-None-clause-err : goal.returns-in-Ok-None-clause-err
returns-in-Ok-None-clause-err g c w before whole last k =
    let o = c.in-Ok.ensures.ok in
    let laid = rw c.in-Ok-None.field-0-is at (c.in-Ok-None.ensures.ok c.in-Ok.opened.pairs o.1) in
    let has = items-laid _ (means c.args.entries.now c.args.deltas) _ _ c.in-Ok.opened.open c.in-Ok.opened.pairs None (rw c.stands_in_bytes.ensures.value at o.0) o.1 laid in
    IfErr-weaker c.take_values-in-Ok-None.result _ _ (λ e why. elim why [
      | inl memory ↦ inl memory
      | inr x ↦ inr (inr (inr (record { items = c.in-Ok.opened.pairs; values = c.in-Ok.opened.open.values.now; has = has; why = x })))
    ]) (rw c.header-in-Ok-None.ensures.is at (c.take_values-in-Ok-None.ensures.err w before whole last k o.2))

pub returns-in-Err-laid_values-clause-err : goal.returns-in-Err-laid_values-clause-err
returns-in-Err-laid_values-clause-err g c w before whole last k =
    let o = c.in-Ok.ensures.ok in
    elim (c.in-Err-laid_values.ensures.err c.in-Ok.opened.pairs o.1) [
      | inl memory ↦ inl memory
      | inr why ↦ inr (inr (inl (not-laid _ (means c.args.entries.now c.args.deltas) _ _ c.in-Ok.opened.open c.in-Ok.opened.pairs _ (rw c.stands_in_bytes.ensures.value at o.0) o.1 why)))
    ]
