use Rattle.std.proofs.Common.{◌≡◌, map}
use Rattle.write_places.specs.Places.{picked}
use Rattle.write_values.specs.Decimals.{any_wide, form_physical}
use Rattle.write_values.specs.Wide.{number_at}
use Rattle.write_values.proofs.WideColumns.{more_taken}
use Rattle.write_values.proofs.wide.FindingTaker.take_some.Goals as goal

pub returns-clause-taken : goal.returns-clause-taken
returns-clause-taken c = λ first places h.
    let p = form_physical first.decimals.form in
    let f = number_at first.decimals in
    let e : c.any_of_picked.result ≡ any_wide p (map f (picked c.args.bits c.args.from c.args.count)) = rw (← h.0) c.any_of_picked.ensures in
    (h.0, more_taken p f first.found c.args.self.now.found c.any_of_picked.result places (picked c.args.bits c.args.from c.args.count) h.1 e)
