use Rattle.std.proofs.Common.{◌≡◌, ◌∙◌, ◌∷◌, [], Err, sym, ap, arith}
use Rattle.columns_base.specs.declared.error.Error.{Error}
use Rattle.pq_bitmaps.specs.Filter.{bits_left}
use Rattle.pq_bitmaps.specs.Selected.{gaps_from, selected}
use Rattle.pq_bitmaps.proofs.Filters.{ended, failed, the_bits}
use Rattle.pq_bitmaps.proofs.filter.find_run.Goals as goal

pub returns-in-Some-Err-clause-err : goal.returns-in-Some-Err-clause-err
returns-in-Some-Err-clause-err c =
    let f = c.args.filter.now in
    let g = rw c.in-Some-Err.field-0-is at c.in-Some-Err.ensures.steps in
    let bits : f.runs.bits ≡ Err c.in-Some-Err.error ∷ [] = g.1 ∙ ap (λ (e : Error). the_bits e) (sym g.0) in
    let none : selected c.end.new.filter.intervals.items ≡ 0 = ap selected c.end.ensures.none.2 in (
      failed f.skip f.count (gaps_from f.place f.intervals.items) f.rest f.runs.bits c.in-Some-Err.error c.requires.some (omega (arith, c.if-len-gt0.false, c.len.ensures)) bits,
      ended c.end.new.filter.skip c.end.new.filter.count (gaps_from c.end.new.filter.place c.end.new.filter.intervals.items) (bits_left c.end.new.filter) c.end.ensures.none.0 c.end.ensures.none.1 (ap (gaps_from c.end.new.filter.place) c.end.ensures.none.2),
      omega (arith, none, c.end.ensures.none.1),
    )
