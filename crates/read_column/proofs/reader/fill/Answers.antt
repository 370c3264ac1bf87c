use Rattle.std.proofs.Common.{inl, refl, sym, [], ◌∙◌}
use Rattle.std.proofs.lemmas.List.Elements.{All-nil}
use Rattle.pq_pages.specs.Outcomes.{IsGiven}
use Rattle.read_column.proofs.Futures.{before-behind, fails-before}
use Rattle.read_column.proofs.Readings.{ended-filled, steps-on}
use Rattle.read_column.proofs.Taking.{lt-holds}
use Rattle.read_column.proofs.reader.fill.Goals as goal

pub returns-in-Err-clause-err : goal.returns-in-Err-clause-err
returns-in-Err-clause-err g c o pieces others r = fails-before c.in-Err.error o _ _ c.pages.invariant.0.behind (c.in-Err.ensures.err o pieces others (c.pages.invariant.0.reads o pieces others r))

pub returns-then-not-is_taken-clause-ok : goal.returns-then-not-is_taken-clause-ok
returns-then-not-is_taken-clause-ok g c o pieces others r = ended-filled _ _ o pieces _ _ _ _ _ (c.if-not-is_taken.true) (c.in-Ok.ensures.ok o pieces others (c.pages.invariant.0.reads o pieces others r))

pub pages-preserved : goal.pages-preserved
pages-preserved g c = (
  record {
    reads = λ o pieces others r. steps-on _ _ o pieces _ _ _ _ _ c.if-not-is_taken.false (c.in-Ok.ensures.ok o pieces others (c.pages.invariant.0.reads o pieces others r));
    behind = before-behind _ _ _ c.pages.invariant.0.behind c.in-Ok.ensures.behind;
  },
  c.in-Ok.ensures.suits,
)

pub returns-clause-ok : goal.returns-clause-ok
returns-clause-ok g c o pieces others r = record { is = c.pages.invariant.0.reads o pieces others r; full = inl (lt-holds 0 _ (sym c.has_whole.ensures ∙ c.pages-test.false)) }

pub pages-init : goal.pages-init
pages-init g c = (record { reads = λ o pieces others r. r; behind = ([], All-nil IsGiven, refl) }, c.requires.suits)

pub returns-then-not-is_taken-clause-behind : goal.returns-then-not-is_taken-clause-behind
returns-then-not-is_taken-clause-behind g c = before-behind _ _ _ c.pages.invariant.0.behind c.in-Ok.ensures.behind

pub returns-clause-behind : goal.returns-clause-behind
returns-clause-behind g c = c.pages.invariant.0.behind
