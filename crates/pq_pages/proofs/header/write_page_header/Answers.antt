use Rattle.std.proofs.Common.{◌++◌, ap, ◌∙◌, refl}
use Rattle.pq_thrift.specs.Spelling.{spell}
use Rattle.pq_thrift.proofs.Spelled.{is_spelled}
use Rattle.pq_pages.specs.HeaderValue.{page_value}
use Rattle.pq_pages.proofs.HeaderWritable.{header_struct, header_writable}
use Rattle.pq_pages.proofs.header.write_page_header.Goals as goal

pub returns-clause-ok : goal.returns-clause-ok
returns-clause-ok c =
    let v = page_value c.args.page.now in
    let empty = ap (λ xs. xs ++ spell v) c.in_ok-text.ensures.items in
    record {
      text = spell v;
      parts = c.in_ok-extend_from_slice.ensures.items ∙ ap (λ xs. c.args.out.now.items ++ xs) (c.deref.ensures.value ∙ c.in_ok-push_page.ensures.spelled ∙ empty);
      is = record { exact = refl; spells = is_spelled v (header_struct c.args.page.now) (header_writable c.args.page.now) c.in_ok-push_page.ensures.fits };
    }

pub returns-clause-exact : goal.returns-clause-exact
returns-clause-exact c =
    let v = page_value c.args.page.now in
    let empty = ap (λ xs. xs ++ spell v) c.in_ok-text.ensures.items in
    c.in_ok-extend_from_slice.ensures.items ∙ ap (λ xs. c.args.out.now.items ++ xs) (c.deref.ensures.value ∙ c.in_ok-push_page.ensures.spelled ∙ empty)
