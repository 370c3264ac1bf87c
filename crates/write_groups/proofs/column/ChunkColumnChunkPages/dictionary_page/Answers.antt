use Rattle.std.proofs.Common.{◌∙◌, ap, sym, subst, Some, Option}
use Rattle.std.specs.Prelude.{Result, Ok}
use Rattle.columns_base.specs.declared.error.Error.{Error}
use Rattle.pq_pages.specs.declared.page.Page.{Page}
use Rattle.write_pages.specs.Given.{to_give}
use Rattle.write_pages.specs.Refused.{Gives}
use Rattle.write_groups.proofs.Next.{as_many_left, dictionary_refused, error_refuses, failed_later, given_dictionary, no_dictionary}
use Rattle.write_groups.proofs.column.ChunkColumnChunkPages.dictionary_page.Goals as goal

pub returns-then-not-owes_dictionary-clause-page : goal.returns-then-not-owes_dictionary-clause-page
returns-then-not-owes_dictionary-clause-page c = λ version l k h. no_dictionary c.args.self.now version l k (sym c.owes_dictionary.ensures ∙ c.if-not-owes_dictionary.true) h

pub returns-in-Some-Ok-Dict-clause-page : goal.returns-in-Some-Ok-Dict-clause-page
returns-in-Some-Ok-Dict-clause-page c = λ version l k h.
    given_dictionary c.args.self.now c.next_page.new.self c.in-Some-Ok-Dict.page version l k (subst (λ (r : Option (Result Page Error)). Gives (to_give c.args.self.now.pages) (to_give c.next_page.new.self) r) (c.in-Some-Ok-Dict.is ∙ ap (λ (x : Result Page Error). Some x) (c.in-Some-Ok-Dict.field-0-is ∙ ap (λ (x : Page). Ok x) c.in-Some-Ok-Dict.field-0-0-is)) c.next_page.ensures) h

pub returns-in-Some-Ok-Dict-clause-fewer : goal.returns-in-Some-Ok-Dict-clause-fewer
returns-in-Some-Ok-Dict-clause-fewer c =
    as_many_left c.args.self.now c.next_page.new.self c.in-Some-Ok-Dict.page (subst (λ (r : Option (Result Page Error)). Gives (to_give c.args.self.now.pages) (to_give c.next_page.new.self) r) (c.in-Some-Ok-Dict.is ∙ ap (λ (x : Result Page Error). Some x) (c.in-Some-Ok-Dict.field-0-is ∙ ap (λ (x : Page). Ok x) c.in-Some-Ok-Dict.field-0-0-is)) c.next_page.ensures)

pub returns-in-Some-Ok-Dict-clause-later : goal.returns-in-Some-Ok-Dict-clause-later
returns-in-Some-Ok-Dict-clause-later c = λ e h.
    dictionary_refused c.args.self.now c.next_page.new.self c.in-Some-Ok-Dict.page e (subst (λ (r : Option (Result Page Error)). Gives (to_give c.args.self.now.pages) (to_give c.next_page.new.self) r) (c.in-Some-Ok-Dict.is ∙ ap (λ (x : Result Page Error). Some x) (c.in-Some-Ok-Dict.field-0-is ∙ ap (λ (x : Page). Ok x) c.in-Some-Ok-Dict.field-0-0-is)) c.next_page.ensures) h

pub returns-in-Some-Err-clause-refused : goal.returns-in-Some-Err-clause-refused
returns-in-Some-Err-clause-refused c =
    error_refuses c.args.self.now c.next_page.new.self c.in-Some-Err.error (subst (λ (r : Option (Result Page Error)). Gives (to_give c.args.self.now.pages) (to_give c.next_page.new.self) r) (c.in-Some-Err.is ∙ ap (λ (x : Result Page Error). Some x) c.in-Some-Err.field-0-is) c.next_page.ensures)

pub returns-in-Some-Err-clause-later : goal.returns-in-Some-Err-clause-later
returns-in-Some-Err-clause-later c = λ e h.
    failed_later c.args.self.now c.next_page.new.self c.in-Some-Err.error e (subst (λ (r : Option (Result Page Error)). Gives (to_give c.args.self.now.pages) (to_give c.next_page.new.self) r) (c.in-Some-Err.is ∙ ap (λ (x : Result Page Error). Some x) c.in-Some-Err.field-0-is) c.next_page.ensures) h
