use Rattle.std.proofs.Common.{◌≤◌, ℕ, sym, subst}
use Rattle.columns_array.specs.Boxed.{boxed}
use Rattle.pq_tree.specs.Views.{physical_view}
use Rattle.pq_files.specs.Room.{max_size}
use Rattle.dictionary_pages.proofs.Stretches.{null_row, null_size, there_row, there_size}
use Rattle.dictionary_pages.proofs.entry_bytes.push_one.Goals as goal

pub push_fillers-requires : goal.push_fillers-requires
push_fillers-requires c =
    let s = c.args.stretch in
    record { small = subst (λ (n : ℕ). n ≤ max_size) (null_size (boxed c.args.entries.now) (physical_view c.args.physical_type) c.args.leaf c.requires.leaf c.args.from s.end c.requires.ordered s.are_null c.requires.alike c.if-stretch.true) c.requires.small }

pub returns-then-stretch-clause-ok : goal.returns-then-stretch-clause-ok
returns-then-stretch-clause-ok c =
    let s = c.args.stretch in
    null_row (boxed c.args.entries.now) (physical_view c.args.physical_type) c.args.leaf c.requires.leaf c.args.from s.end c.requires.ordered s.are_null c.requires.alike c.args.out.items c.in_ok-filled.filled.items c.if-stretch.true c.in_ok-filled.ensures.ok

pub push_stretch-requires-clause-small : goal.push_stretch-requires-clause-small
push_stretch-requires-clause-small c =
    let s = c.args.stretch in
    subst (λ (n : ℕ). n ≤ max_size) (sym (there_size (boxed c.args.entries.now) (physical_view c.args.physical_type) c.args.leaf c.requires.leaf c.args.from s.end c.requires.ordered s.are_null c.requires.alike c.if-stretch.false)) c.requires.small

pub returns-clause-ok : goal.returns-clause-ok
returns-clause-ok c =
    let s = c.args.stretch in
    there_row (boxed c.args.entries.now) (physical_view c.args.physical_type) c.args.leaf c.requires.leaf c.args.from s.end c.requires.ordered s.are_null c.requires.alike c.args.out.items c.in_ok-spelled.spelled.items c.if-stretch.false c.in_ok-spelled.ensures.ok
