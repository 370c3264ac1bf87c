use Rattle.std.proofs.Common.{◌≡◌, ◌⊎◌, subst}
use Rattle.columns_base.specs.declared.error.Error.TheVariants.{Memory}
use Rattle.columns_slots.specs.Tree.{ArrayTree}
use Rattle.levels.specs.Nested.{parts_of}
use Rattle.write_pages.specs.Refused.{RefusesPages}
use Rattle.write_pages.proofs.dictionary.array_to_pages.Goals as goal

pub returns-clause-err : goal.returns-clause-err
returns-clause-err c =
    let e = c.in-Err.error in
    subst (λ (a : ArrayTree). (e ≡ Memory) ⊎ RefusesPages c.args.options c.args.type_ (parts_of c.args.nested.now) a c.args.encoding e) c.in_ok-clone.ensures.ok c.in-Err.ensures.err
