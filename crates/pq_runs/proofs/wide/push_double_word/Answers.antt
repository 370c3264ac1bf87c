use Rattle.std.proofs.Common.{[], sym, append-nil, refl}
use Rattle.pq_runs.proofs.Packs.{two_words, no_words, kept_same, kept_more}
use Rattle.pq_runs.proofs.wide.push_double_word.Goals as goal

pub returns-then-bits-lt64 : goal.returns-then-bits-lt64
returns-then-bits-lt64 c = record {
  ok = ([], sym (append-nil c.args.out.now.items), no_words c.args.bits c.args.held c.if-bits-lt64.true c.requires.small);
  kept = kept_same c.args.out.now.items c.args.out.now.items refl;
}

pub returns : goal.returns
returns c = record {
  ok = (c.to_le_bytes.result, c.in_ok-extend_from_slice.ensures.items, two_words c.args.bits c.args.held _ _ c.to_le_bytes.result c.if-bits-lt64.false c.requires.most c.requires.small refl refl c.to_le_bytes.ensures);
  kept = kept_more c.args.out.now.items c.extend_from_slice.new.self.items c.to_le_bytes.result c.in_ok-extend_from_slice.ensures.items;
}
