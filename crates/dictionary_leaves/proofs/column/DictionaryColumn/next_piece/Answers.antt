use Rattle.std.proofs.Common.{◌∙◌, List, sym, subst}
use Rattle.columns_array.specs.Boxed.{boxed}
use Rattle.columns_core.specs.View.{type_view}
use Rattle.read_pieces.specs.Columns.{IsWhole}
use Rattle.shredding.specs.Shred.{Triple}
use Rattle.dictionary_leaves.specs.KeyColumns.{key_in, reader_in}
use Rattle.dictionary_leaves.proofs.Going.{at-ahead, at-end, at-open, open-as, open-first, typed-as}
use Rattle.dictionary_leaves.proofs.column.DictionaryColumn.next_piece.Goals as goal

pub returns-in-Ended : goal.returns-in-Ended
returns-in-Ended g c o t pieces r =
    let before = rw (← c.self.view_is) at r in
    absurd (at-end g.I.Pages.outcomes o t c.self.inside.entries pieces c.self.inside.stage (sym c.replace.ensures.value ∙ c.in-Ended.is) before.stage)

pub returns-in-Open : goal.returns-in-Open
returns-in-Open g c o t pieces r =
    let before = rw (← c.self.view_is) at r in
    let v = c.in-Open.opened in
    let opened = at-open g.I.Pages.outcomes o t c.self.inside.entries pieces c.self.inside.stage v (sym c.replace.ensures.value ∙ c.in-Open.is) before.stage in
    typed-as o (type_view c.self.inside.data_type) t pieces c.go_on.result c.go_on.new.self before.typed (c.go_on.ensures o pieces (open-as o (type_view c.self.inside.data_type) t pieces (key_in v.keys) (reader_in v.keys) (boxed v.entries) before.typed opened))

pub returns-in-Ok-Some : goal.returns-in-Ok-Some
returns-in-Ok-Some g c o t pieces r =
    let before = rw (← c.self.view_is) at r in
    let v = c.in-Ok-Some.opened in
    let ahead = at-ahead g.I.Pages.outcomes o t c.self.inside.entries pieces c.self.inside.stage c.in-Ahead.unread (sym c.replace.ensures.value ∙ c.in-Ahead.is) before.stage in
    let opened = rw (c.in-Ok-Some.is, c.in-Ok-Some.field-0-is) at c.open_dictionary.ensures o t ahead.1 in
    typed-as o (type_view c.self.inside.data_type) t pieces c.go_on-in-Ok-Some.result c.go_on-in-Ok-Some.new.self before.typed (c.go_on-in-Ok-Some.ensures o pieces (open-first o (type_view c.self.inside.data_type) t pieces (key_in v.keys) (reader_in v.keys) (boxed v.entries) before.typed ahead.0 opened))

pub returns-in-Ok-None : goal.returns-in-Ok-None
returns-in-Ok-None g c o t pieces r =
    let before = rw (← c.self.view_is) at r in
    let ahead = at-ahead g.I.Pages.outcomes o t c.self.inside.entries pieces c.self.inside.stage c.in-Ahead.unread (sym c.replace.ensures.value ∙ c.in-Ahead.is) before.stage in
    subst (λ (ps : List (List Triple)). IsWhole o ps) (sym ahead.0) (rw (c.in-Ok-None.is, c.in-Ok-None.field-0-is) at c.open_dictionary.ensures o t ahead.1)

pub returns-in-Err : goal.returns-in-Err
returns-in-Err g c o t pieces r =
    let before = rw (← c.self.view_is) at r in
    let ahead = at-ahead g.I.Pages.outcomes o t c.self.inside.entries pieces c.self.inside.stage c.in-Ahead.unread (sym c.replace.ensures.value ∙ c.in-Ahead.is) before.stage in
    rw c.in-Err.is at c.open_dictionary.ensures o t ahead.1
