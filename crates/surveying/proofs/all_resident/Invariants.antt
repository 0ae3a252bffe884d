-- The pages before `page` are all resident.
use Rattle.surveying.specs.Surveys.{AllResident}
use Rattle.surveying.proofs.all_resident.Given as goal

abbrev pub invariant-loop-page : goal.invariant-loop-page
invariant-loop-page l = AllResident l.head l.space l.first l.page l.count l.table l.helper l.stack l.cache
