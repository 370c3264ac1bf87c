use Rattle.std.proofs.Common.{inl, inr, arith, refl, subst, sym, ◌∙◌, ◌≡◌, false}
use Rattle.pq_files.specs.Page.{rows_in}
use Rattle.pq_tree.specs.declared.types.TypedPageHeader.TheVariants as T
use Rattle.pq_tree.specs.Views.{typed_view}
use Rattle.read_column.specs.Opened.{StatesRows, first_goes_on}
use Rattle.read_column.proofs.Columns.{rows-taken}
use Rattle.read_column.proofs.Taking.{first-begins}
use Rattle.read_column.proofs.take.take_values.Goals as goal

pub returns-then-opened-clause-err : goal.returns-then-opened-clause-err
returns-then-opened-clause-err g c w before whole last k same = inr (inl (sym same ∙ c.if-opened.true, c.misplaced.ensures))

pub returns-in-Err-clause-err : goal.returns-in-Err-clause-err
returns-in-Err-clause-err g c w before whole last k same =
    let first : first_goes_on c.args.opened.pairs ≡ false = sym same ∙ c.if-opened.false in
    elim (c.in-Err.ensures.err w before whole last k (first-begins c.args.opened.pairs first)) [
      | inl memory ↦ inl memory
      | inr stops ↦ inr (inr (inl (first, stops)))
    ]

pub returns-then-not-states_rows-clause-err : goal.returns-then-not-states_rows-clause-err
returns-then-not-states_rows-clause-err g c w before whole last k same =
    let first : first_goes_on c.args.opened.pairs ≡ false = sym same ∙ c.if-opened.false in
    let takes = c.in-Ok.ensures.ok w before whole last k (first-begins c.args.opened.pairs first) in
    let count : rows_in takes.1.taken ≡ c.saturating_sub.result = omega (arith, c.saturating_sub.ensures, c.rows_to_come-before.ensures, c.rows_to_come.ensures, rows-taken _ w before whole last c.args.queue c.in-Ok.queue _ _ _ _ k takes.1) in
    inr (inr (inr (
      refl,
      record {
        queue = c.in-Ok.queue;
        takes = takes;
        otherwise = λ rows. (let f = sym c.if-not-states_rows.true ∙ c.states_rows.ensures.1 (subst (StatesRows (typed_view (T.Data c.args.header.now))) count rows) in cc f);
      },
    )))

pub returns-clause-ok : goal.returns-clause-ok
returns-clause-ok g c w before whole last k same =
    let first : first_goes_on c.args.opened.pairs ≡ false = sym same ∙ c.if-opened.false in
    let takes = c.in-Ok.ensures.ok w before whole last k (first-begins c.args.opened.pairs first) in
    let count : c.saturating_sub.result ≡ rows_in takes.1.taken = omega (arith, c.saturating_sub.ensures, c.rows_to_come-before.ensures, c.rows_to_come.ensures, rows-taken _ w before whole last c.args.queue c.in-Ok.queue _ _ _ _ k takes.1) in
    record {
      first = first;
      takes = takes;
      rows = subst (StatesRows (typed_view (T.Data c.args.header.now))) count (c.states_rows.ensures.0 c.if-not-states_rows.false);
    }
