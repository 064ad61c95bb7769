-- The values of the tables.
use Rattle.starred.proofs.Starred.{starred}
use Rattle.starred.proofs.Sheets.{sheets}
use Rattle.starred.proofs.LightestCodewords.{lightest_codewords}
use Rattle.starred.proofs.HsiaoWidths.{hsiao_widths}
use Rattle.starred.proofs.LastLeaders.{last_leaders}
use Rattle.starred.proofs.Bursts.{bursts}
use Rattle.starred.proofs.LongestWords.{longest-words}
use Rattle.starred.proofs.examples_hold.Goals as goal

pub returns-clause-starred : goal.returns-clause-starred
returns-clause-starred c = starred

pub returns-clause-sheets : goal.returns-clause-sheets
returns-clause-sheets c = sheets

pub returns-clause-lightest_codewords : goal.returns-clause-lightest_codewords
returns-clause-lightest_codewords c = lightest_codewords

pub returns-clause-hsiao_widths : goal.returns-clause-hsiao_widths
returns-clause-hsiao_widths c = hsiao_widths

pub returns-clause-last_leaders : goal.returns-clause-last_leaders
returns-clause-last_leaders c = last_leaders

pub returns-clause-bursts : goal.returns-clause-bursts
returns-clause-bursts c = bursts

pub returns-clause-longest_words : goal.returns-clause-longest_words
returns-clause-longest_words c = longest-words
