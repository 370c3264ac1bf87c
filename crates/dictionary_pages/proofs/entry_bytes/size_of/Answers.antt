use Rattle.std.proofs.Common.{◌-◌, ◌*◌, ◌∙◌, ap, sym, ℕ}
use Rattle.columns_array.specs.Boxed.{boxed}
use Rattle.pq_tree.specs.Views.{physical_view}
use Rattle.dictionary_pages.proofs.Stretches.{null_size, there_size}
use Rattle.dictionary_pages.proofs.entry_bytes.size_of.Goals as goal

pub returns-then-stretch : goal.returns-then-stretch
returns-then-stretch c =
    let s = c.args.stretch in
    ap (λ (n : ℕ). (s.end - c.args.from) * n) c.filler_size.ensures ∙ sym (null_size (boxed c.args.entries.now) (physical_view c.args.physical_type) c.args.leaf c.requires.leaf c.args.from s.end c.requires.ordered s.are_null c.requires.alike c.if-stretch.true)

pub returns : goal.returns
returns c =
    let s = c.args.stretch in
    c.stretch_size.ensures ∙ there_size (boxed c.args.entries.now) (physical_view c.args.physical_type) c.args.leaf c.requires.leaf c.args.from s.end c.requires.ordered s.are_null c.requires.alike c.if-stretch.false
