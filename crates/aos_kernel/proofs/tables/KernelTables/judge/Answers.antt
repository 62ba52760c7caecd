use Rattle.std.proofs.Common.{◌∙◌, sym}
use Rattle.aos_kernel.proofs.TablesShown.{shows_known}
use Rattle.aos_kernel.proofs.Handing.{told_of}
use Rattle.aos_kernel.proofs.tables.KernelTables.judge.Goals as goal

pub returns-clause-verdict : goal.returns-clause-verdict
returns-clause-verdict c earlier st lock condition h at awaits =
    c.judge_by.ensures.verdict ∙ sym (told_of c.args.image.now earlier c.args.self.now st c.args.activity lock condition h at.0 at.1 awaits)

pub returns-clause-same : goal.returns-clause-same
returns-clause-same c earlier st h =
    shows_known c.args.image.now earlier c.args.self.now st c.judge_by.new.activities c.judge_by.new.stack c.judge_by.ensures.known c.judge_by.ensures.room h
