use Rattle.aos_lock.proofs.Changes.{still_belong, still_waiting}
use Rattle.aos_lock.proofs.law.links_change.Goals as goal

pub returns-clause-belong : goal.returns-clause-belong
returns-clause-belong c old new locks touched keeps h idle = still_belong old new locks touched keeps h idle

pub returns-clause-lists : goal.returns-clause-lists
returns-clause-lists c old new locks touched keeps h idle marks lock = still_waiting old new locks touched keeps h idle marks lock
