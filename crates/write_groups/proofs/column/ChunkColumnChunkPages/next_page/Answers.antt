use Rattle.std.proofs.Common.{◌∙◌, ap, subst, Some, Option}
use Rattle.std.specs.Prelude.{Result, Ok}
use Rattle.columns_base.specs.declared.error.Error.{Error}
use Rattle.pq_pages.specs.declared.page.Page.{Page}
use Rattle.write_pages.specs.Given.{to_give}
use Rattle.write_pages.specs.Refused.{Gives}
use Rattle.write_groups.proofs.Next.{error_refuses, failed_later, next_given, next_refused}
use Rattle.write_groups.proofs.column.ChunkColumnChunkPages.next_page.Goals as goal

pub returns-in-Some-Ok-Data-clause-page : goal.returns-in-Some-Ok-Data-clause-page
returns-in-Some-Ok-Data-clause-page c = λ version l k h.
    next_given c.args.self.now c.next_page.new.self c.in-Some-Ok-Data.page version l k (subst (λ (r : Option (Result Page Error)). Gives (to_give c.args.self.now.pages) (to_give c.next_page.new.self) r) (c.in-Some-Ok-Data.is ∙ ap (λ (x : Result Page Error). Some x) (c.in-Some-Ok-Data.field-0-is ∙ ap (λ (x : Page). Ok x) c.in-Some-Ok-Data.field-0-0-is)) c.next_page.ensures) h

pub returns-in-Some-Ok-Data-clause-later : goal.returns-in-Some-Ok-Data-clause-later
returns-in-Some-Ok-Data-clause-later c = λ e h. next_refused c.args.self.now c.next_page.new.self c.in-Some-Ok-Data.page e (subst (λ (r : Option (Result Page Error)). Gives (to_give c.args.self.now.pages) (to_give c.next_page.new.self) r) (c.in-Some-Ok-Data.is ∙ ap (λ (x : Result Page Error). Some x) (c.in-Some-Ok-Data.field-0-is ∙ ap (λ (x : Page). Ok x) c.in-Some-Ok-Data.field-0-0-is)) c.next_page.ensures) h

pub returns-in-Some-Err-clause-refused : goal.returns-in-Some-Err-clause-refused
returns-in-Some-Err-clause-refused c =
    error_refuses c.args.self.now c.next_page.new.self c.in-Some-Err.error (subst (λ (r : Option (Result Page Error)). Gives (to_give c.args.self.now.pages) (to_give c.next_page.new.self) r) (c.in-Some-Err.is ∙ ap (λ (x : Result Page Error). Some x) c.in-Some-Err.field-0-is) c.next_page.ensures)

pub returns-in-Some-Err-clause-later : goal.returns-in-Some-Err-clause-later
returns-in-Some-Err-clause-later c = λ e h.
    failed_later c.args.self.now c.next_page.new.self c.in-Some-Err.error e (subst (λ (r : Option (Result Page Error)). Gives (to_give c.args.self.now.pages) (to_give c.next_page.new.self) r) (c.in-Some-Err.is ∙ ap (λ (x : Result Page Error). Some x) c.in-Some-Err.field-0-is) c.next_page.ensures) h
