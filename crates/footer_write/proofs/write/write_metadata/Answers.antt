use Rattle.std.proofs.Common.{◌++◌, ◌∙◌, ap, refl, rules}
use Rattle.pq_thrift.specs.Spelling.{spell}
use Rattle.pq_thrift.proofs.Spelled.{is_spelled}
use Rattle.pq_files.specs.Written.{footer_value}
use Rattle.pq_files.proofs.FooterLength.{footer_short}
use Rattle.pq_files.proofs.FooterNests.{footer_nests}
use Rattle.pq_files.proofs.FooterWritable.{footer_writable}
use Rattle.footer_write.specs.FooterView.{footer_view}
use Rattle.footer_write.specs.Fits.{FooterFits}
use Rattle.footer_write.proofs.ReadFooter.{footer_says}
use Rattle.footer_write.proofs.write.write_metadata.Goals as goal

pub returns-clause-ok : goal.returns-clause-ok
returns-clause-ok c =
    let m = footer_view c.args.metadata.now in
    let v = footer_value m in
    let room : FooterFits m = search rules in
    let fits = c.in_ok-push_footer.ensures.ok.fits in
    let empty = ap (λ xs. xs ++ spell v) c.new-text.ensures.items in
    let spells = is_spelled v tt (footer_writable m) fits in
    record {
      text = spell v;
      parts = c.in_ok-extend_from_slice.ensures.items ∙ ap (λ xs. c.args.out.now.items ++ xs) (c.deref.ensures.value ∙ c.in_ok-push_footer.ensures.ok.spelled ∙ empty);
      is = record { exact = refl; spells = spells };
      within = λ brief. footer_short m brief room.room fits;
      reads = λ h. (v, spells, footer_nests m, footer_says c.args.metadata.now c.know_name.ensures h);
    }

pub returns-clause-exact : goal.returns-clause-exact
returns-clause-exact c =
    let v = footer_value (footer_view c.args.metadata.now) in
    let empty = ap (λ xs. xs ++ spell v) c.new-text.ensures.items in
    c.in_ok-extend_from_slice.ensures.items ∙ ap (λ xs. c.args.out.now.items ++ xs) (c.deref.ensures.value ∙ c.in_ok-push_footer.ensures.ok.spelled ∙ empty)
