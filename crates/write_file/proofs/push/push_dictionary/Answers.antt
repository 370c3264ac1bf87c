use Rattle.std.proofs.Common.{[], Option, subst}
use Rattle.std.proofs.KnownBytes.{Appends-nil}
use Rattle.pq_pages.specs.declared.page.DictPage.{DictPage}
use Rattle.write_file.proofs.Dictionaries.{is_none, is_page, passes_of}
use Rattle.write_file.proofs.Reasons.{err_so, ok_so, own}
use Rattle.write_file.specs.Pages.{IsDictionaryOf}
use Rattle.write_file.proofs.push.push_dictionary.Goals as goal

pub returns-in_default-clause-ok : goal.returns-in_default-clause-ok
returns-in_default-clause-ok g c = ([], Appends-nil _, c.zero.ensures, λ l entries h. is_none l entries (subst (λ (x : Option DictPage). IsDictionaryOf l entries x) c.in_default.is h))

pub returns-clause-ok : goal.returns-clause-ok
returns-clause-ok g c =
    let law = c.pages_are_written.ensures in
    ok_so c.push_headed.result _ _ (λ n p. (p.0, p.1, p.2, λ l entries h. is_page l entries c.in-Some.page p.0 law (subst (λ (x : Option DictPage). IsDictionaryOf l entries x) c.in-Some.is h) p.3)) c.push_headed.ensures.ok

pub returns-clause-refused : goal.returns-clause-refused
returns-clause-refused g c =
    let law = c.pages_are_written.ensures in
    err_so c.push_headed.result _ _ (λ e. own (λ h. (h.0, λ l entries is. passes_of l entries c.args.page c.in-Some.page law c.in-Some.is is h.1))) c.push_headed.ensures.refused
