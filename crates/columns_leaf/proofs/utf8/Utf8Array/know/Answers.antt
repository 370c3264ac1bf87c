use Rattle.std.proofs.Common.{subst}
use Rattle.columns_slots.specs.Bytes.{pieces}
use Rattle.columns_leaf.specs.Texts.{AreTexts}
use Rattle.columns_leaf.proofs.Texts.{all_texts}
use Rattle.columns_leaf.proofs.utf8.Utf8Array.know.Goals as goal

pub returns-clause-texts : goal.returns-clause-texts
returns-clause-texts g c = all_texts (pieces c.args.self.now.1.0 c.args.self.now.1.1.0) (subst (λ v. AreTexts (pieces v.1.0 v.1.1.0)) c.self.view_is c.self.invariant.3)
