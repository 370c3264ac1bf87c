use Rattle.std.proofs.Common.{◌≡◌, ◌-◌, map}
use Rattle.write_places.specs.Places.{range}
use Rattle.write_values.specs.Decimals.{any_wide, form_physical}
use Rattle.write_values.specs.Wide.{number_at}
use Rattle.write_values.proofs.WideColumns.{more_taken}
use Rattle.write_values.proofs.wide.FindingTaker.take.Goals as goal

pub returns-clause-taken : goal.returns-clause-taken
returns-clause-taken c = λ first places h.
    let p = form_physical first.decimals.form in
    let f = number_at first.decimals in
    let e : c.any_in_stretch.result ≡ any_wide p (map f (range c.args.from (c.args.to - c.args.from))) = rw (← h.0) c.any_in_stretch.ensures in
    (h.0, more_taken p f first.found c.args.self.now.found c.any_in_stretch.result places (range c.args.from (c.args.to - c.args.from)) h.1 e)
