use Rattle.std.proofs.Common.{inl, inr, not, refl, ap, subst, sym, ◌∙◌, List, [], ℕ}
use Rattle.std.proofs.lemmas.Result.{IfErr-weaker, IfOk-weaker}
use Rattle.std.proofs.lemmas.List.Elements.{All-nil}
use Rattle.pq_pages.specs.Outcomes.{IsGiven, Outcome}
use Rattle.read_column.specs.Dictionary.{means}
use Rattle.read_column.specs.Foreseen.{SourceFails, foreseen}
use Rattle.read_column.specs.Reading.{IsReading, reading}
use Rattle.read_column.proofs.Entered.{entries-refused, entries-taken}
use Rattle.read_column.proofs.Futures.{behind-one}
use Rattle.read_column.proofs.Readings.{ended, not-not, page-taken, ended-early, taken-none, taken-some, queued-of}
use Rattle.read_column.proofs.Refusals.{page-refused}
use Rattle.read_column.proofs.reader.take_next.Goals as goal

pub returns-in-Err-clause-err : goal.returns-in-Err-clause-err
returns-in-Err-clause-err g c o pieces others r = elim c.in-Err.ensures.1 [
  | inl memory ↦ inr (inl memory.0)
  | inr f ↦ inl (subst (SourceFails c.in-Err.error) (sym f) (inl refl))
]

pub returns-in-None-clause-err : goal.returns-in-None-clause-err
returns-in-None-clause-err g c o pieces others r =
    let none = taken-none _ _ _ c.in-Ok.ensures (sym c.in-None.ensures) in
    let r' = subst (λ (os : List Outcome). IsReading (λ (text : List ℕ). g.L.LeafReader.stored c.args.leaf.now text 0) g.L.LeafReader.byte_limit o pieces (reading (foreseen os others) (means c.args.entries.now c.args.deltas) c.args.queue c.args.began.now)) none.0 r in
    IfErr-weaker c.end.result _ _ (λ e h. inr (ended-early _ _ o pieces _ c.args.queue _ e r' h.0 h.1)) c.end.ensures.err

pub returns-in-None-clause-ok : goal.returns-in-None-clause-ok
returns-in-None-clause-ok g c o pieces others r =
    let none = taken-none _ _ _ c.in-Ok.ensures (sym c.in-None.ensures) in
    let r' = subst (λ (os : List Outcome). IsReading (λ (text : List ℕ). g.L.LeafReader.stored c.args.leaf.now text 0) g.L.LeafReader.byte_limit o pieces (reading (foreseen os others) (means c.args.entries.now c.args.deltas) c.args.queue c.args.began.now)) none.0 r in
    IfOk-weaker c.end.result _ _ (λ x h. ended _ _ o pieces x.1 _ _ c.args.queue x.0 _ r' (ap (λ (os : List Outcome). foreseen os others) none.1) h.0 h.1 h.2) c.end.ensures.ok

pub returns-in-Ok-take_entries-clause-ok : goal.returns-in-Ok-take_entries-clause-ok
returns-in-Ok-take_entries-clause-ok g c o pieces others r =
    let shown = rw c.in-Some-Dict.field-0-is at c.in-Some-Dict.ensures in
    let some = taken-some _ _ _ _ c.in-Ok.ensures (sym shown) in
    let r' = subst (λ (os : List Outcome). IsReading (λ (text : List ℕ). g.L.LeafReader.stored c.args.leaf.now text 0) g.L.LeafReader.byte_limit o pieces (reading (foreseen os others) (means c.args.entries.now c.args.deltas) c.args.queue c.args.began.now)) some r in
    let t = c.in-Ok-take_entries.ensures.ok in
    rw t.3 (entries-taken _ _ o pieces _ _ _ _ c.args.queue _ t.2 r' t.0 t.1 t.4)

pub returns-in-Err-take_entries-clause-err : goal.returns-in-Err-take_entries-clause-err
returns-in-Err-take_entries-clause-err g c o pieces others r =
    let shown = rw c.in-Some-Dict.field-0-is at c.in-Some-Dict.ensures in
    let some = taken-some _ _ _ _ c.in-Ok.ensures (sym shown) in
    let r' = subst (λ (os : List Outcome). IsReading (λ (text : List ℕ). g.L.LeafReader.stored c.args.leaf.now text 0) g.L.LeafReader.byte_limit o pieces (reading (foreseen os others) (means c.args.entries.now c.args.deltas) c.args.queue c.args.began.now)) some r in
    elim c.in-Err-take_entries.ensures.err [
      | inl memory ↦ inr (inl memory)
      | inr why ↦ inr (entries-refused _ _ o pieces _ _ _ _ c.args.queue _ c.in-Err-take_entries.error r' why)
    ]

pub returns-in-Ok-take_page-clause-ok : goal.returns-in-Ok-take_page-clause-ok
returns-in-Ok-take_page-clause-ok g c o pieces others r =
    let shown = rw c.in-Some-Data.field-0-is at c.in-Some-Data.ensures in
    let some = taken-some _ _ _ _ c.in-Ok.ensures (sym shown) in
    let r' = subst (λ (os : List Outcome). IsReading (λ (text : List ℕ). g.L.LeafReader.stored c.args.leaf.now text 0) g.L.LeafReader.byte_limit o pieces (reading (foreseen os others) (means c.args.entries.now c.args.deltas) c.args.queue c.args.began.now)) some r in
    let k = queued-of _ _ o pieces _ _ c.args.queue _ r' in
    page-taken _ _ o pieces _ _ _ _ c.args.queue c.in-Ok-take_page.queue _ r' (c.in-Ok-take_page.ensures.ok o.column.way r'.middle r'.whole r'.last k)

pub returns-in-Err-take_page-clause-err : goal.returns-in-Err-take_page-clause-err
returns-in-Err-take_page-clause-err g c o pieces others r =
    let shown = rw c.in-Some-Data.field-0-is at c.in-Some-Data.ensures in
    let some = taken-some _ _ _ _ c.in-Ok.ensures (sym shown) in
    let r' = subst (λ (os : List Outcome). IsReading (λ (text : List ℕ). g.L.LeafReader.stored c.args.leaf.now text 0) g.L.LeafReader.byte_limit o pieces (reading (foreseen os others) (means c.args.entries.now c.args.deltas) c.args.queue c.args.began.now)) some r in
    let k = queued-of _ _ o pieces _ _ c.args.queue _ r' in
    elim (c.in-Err-take_page.ensures.err o.column.way r'.middle r'.whole r'.last k) [
      | inl memory ↦ inr (inl memory)
      | inr why ↦ inr (page-refused c.items_are_counted.ensures _ _ o pieces _ _ _ _ c.args.queue (not c.args.began.now) c.args.began.now c.in-Err-take_page.error (sym (not-not c.args.began.now)) r' why)
    ]

pub returns-in-None-clause-behind : goal.returns-in-None-clause-behind
returns-in-None-clause-behind g c =
    let none = taken-none _ _ _ c.in-Ok.ensures (sym c.in-None.ensures) in
    IfOk-weaker c.end.result _ _ (λ x h. ([], All-nil IsGiven, none.0 ∙ sym none.1)) c.end.ensures.ok

pub returns-in-Ok-take_entries-clause-behind : goal.returns-in-Ok-take_entries-clause-behind
returns-in-Ok-take_entries-clause-behind g c =
    let shown = rw c.in-Some-Dict.field-0-is at c.in-Some-Dict.ensures in
    behind-one _ _ _ tt (taken-some _ _ _ _ c.in-Ok.ensures (sym shown))

pub returns-in-Ok-take_page-clause-behind : goal.returns-in-Ok-take_page-clause-behind
returns-in-Ok-take_page-clause-behind g c =
    let shown = rw c.in-Some-Data.field-0-is at c.in-Some-Data.ensures in
    behind-one _ _ _ tt (taken-some _ _ _ _ c.in-Ok.ensures (sym shown))
