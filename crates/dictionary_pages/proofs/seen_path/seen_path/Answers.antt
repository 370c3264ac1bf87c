use Rattle.std.proofs.Common.{List, sym, subst, ap}
use Rattle.levels.specs.Nested.{parts_of}
use Rattle.shredding.specs.Parts.{Part}
use Rattle.dictionary_pages.specs.Seen.{IsSeenPath}
use Rattle.dictionary_pages.proofs.Merged.{all_fit}
use Rattle.dictionary_pages.proofs.SeenPaths.{copied_is_seen, merged_is_seen}
use Rattle.dictionary_pages.proofs.seen_path.seen_path.Goals as goal

pub merged_path-requires-clause-fits : goal.merged_path-requires-clause-fits
merged_path-requires-clause-fits c = all_fit c.args.array.now (parts_of c.args.nested.now) (sym c.requires.leaf) c.requires.well.fits

pub returns-then-reaches_null-clause-ok : goal.returns-then-reaches_null-clause-ok
returns-then-reaches_null-clause-ok c =
    subst (λ (ps : List Part). IsSeenPath c.args.array.now (parts_of c.args.nested.now) ps) (sym c.in_ok-path.ensures.ok)
    (merged_is_seen c.args.array.now (parts_of c.args.nested.now) c.requires.well c.reaches_null.ensures.within c.requires.leaf c.requires.along)

pub returns-clause-ok : goal.returns-clause-ok
returns-clause-ok c =
    subst (λ (ps : List Part). IsSeenPath c.args.array.now (parts_of c.args.nested.now) ps) (sym (ap parts_of c.in_ok-path-2.ensures.ok))
    (copied_is_seen c.args.array.now (parts_of c.args.nested.now) c.requires.well c.reaches_null.ensures.within (c.reaches_null.ensures.none c.if-reaches_null.false))
