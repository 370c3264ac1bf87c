use Rattle.std.proofs.Common.{◌≡◌, ◌+◌, ◌≤◌, length, ◌∙◌, arith}
use Rattle.columns_core.proofs.Places.{last_push}
use Rattle.columns_core.specs.Rising.{last_place}
use Rattle.sample_rows.specs.Parts.{tag_text}
use Rattle.sample_rows.proofs.Strung.{row_strung}
use Rattle.sample_rows.proofs.tags.texts.Goals as goal

pub loop-i-preserved : goal.loop-i-preserved
loop-i-preserved c =
    let text = c.deref.result.now in
    let os = c.loop-i.offsets.0 in
    let is : text ≡ tag_text c.loop-i.i = c.deref.ensures ∙ c.in_ok-tag.ensures.ok in
    let short : length text ≤ 6 = rw c.deref.ensures c.in_ok-tag.ensures.short in
    record {
      strung = rw (c.in_ok-push_text.ensures.offsets, c.in_ok-push_text.ensures.bytes) (row_strung tag_text c.loop-i.i os c.loop-i.bytes.items text c.loop-i.invariant.strung is);
      small = rw (c.in_ok-push_text.ensures.offsets) (omega (arith, last_push os (last_place os + length text), short, c.loop-i.invariant.small));
    }
