use Rattle.std.proofs.Common.{option_map, ◌∙◌, ap}
use Rattle.rewrite_words.specs.declared.setting.Setting.TheVariants.{PageLimit, ChunkSize, ByteLimit, PairLimit}
use Rattle.rewrite_words.specs.Words.{numbered_of}
use Rattle.rewrite_words.proofs.Texts.{mapped}
use Rattle.rewrite_words.proofs.setting.read_numbered.Goals as goal

pub returns : goal.returns
unfolding numbered_of
returns c =
    let page = mapped PageLimit c.number_after.result c.map-page.result c.map-page.ensures.cases ∙ ap (option_map PageLimit) c.number_after.ensures in
    let chunk = mapped ChunkSize c.number_after-2.result c.map-chunk.result c.map-chunk.ensures.cases ∙ ap (option_map ChunkSize) c.number_after-2.ensures in
    let limit = mapped ByteLimit c.number_after-3.result c.map-limit.result c.map-limit.ensures.cases ∙ ap (option_map ByteLimit) c.number_after-3.ensures in
    let pairs = mapped PairLimit c.number_after-4.result c.map-pairs.result c.map-pairs.ensures.cases ∙ ap (option_map PairLimit) c.number_after-4.ensures in
    rw (c.or-3.ensures, c.or-2.ensures, c.or.ensures, page, chunk, limit, pairs)
