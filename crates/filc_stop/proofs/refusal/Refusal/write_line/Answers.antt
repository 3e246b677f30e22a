use Rattle.filc_stop.proofs.refusal.Refusal.write_line.Goals as goal

pub returns-in-SourceTooLong-clause-appended : goal.returns-in-SourceTooLong-clause-appended
returns-in-SourceTooLong-clause-appended g c = rw c.in-SourceTooLong.is (rw c.most_bytes-most.ensures.limit at c.write_limit.ensures.appended)

pub returns-in-HasLargeOffset-clause-appended : goal.returns-in-HasLargeOffset-clause-appended
returns-in-HasLargeOffset-clause-appended g c = rw c.in-HasLargeOffset.is c.write_limit-in-HasLargeOffset.ensures.appended

pub returns-in-IsTooHeavy-clause-appended : goal.returns-in-IsTooHeavy-clause-appended
returns-in-IsTooHeavy-clause-appended g c = rw c.in-IsTooHeavy.is c.write_limit-in-IsTooHeavy.ensures.appended

pub returns-in-HasTooManyWords-clause-appended : goal.returns-in-HasTooManyWords-clause-appended
returns-in-HasTooManyWords-clause-appended g c = rw c.in-HasTooManyWords.is c.write_limit-in-HasTooManyWords.ensures.appended

pub returns-in-TooManyCycles-clause-appended : goal.returns-in-TooManyCycles-clause-appended
returns-in-TooManyCycles-clause-appended g c = rw c.in-TooManyCycles.is c.write_limit-in-TooManyCycles.ensures.appended
