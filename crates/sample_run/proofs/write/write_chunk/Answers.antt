use Rattle.sample_run.proofs.write.write_chunk.Goals as goal

pub end_file-requires : goal.end_file-requires
end_file-requires c = (c.args.chunk, c.in-Ok.ensures.ok c.args.chunk c.in_ok-group.ensures.ok)

pub returns-in-Ok-clause-ok : goal.returns-in-Ok-clause-ok
returns-in-Ok-clause-ok c = c.end_file.ensures.ok c.args.chunk (c.in-Ok.ensures.ok c.args.chunk c.in_ok-group.ensures.ok)
