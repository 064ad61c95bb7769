-- 02, No. 4: the leader that comes last of 01's codes, and the number of words tried, over the definition that the contract of the call
-- for the leaders cites.
use Rattle.std.specs.Prelude.{[], ◌∷◌}
use Rattle.coding.specs.Tries.{LastLeader}
use Rattle.starred.specs.Matrices.{digits, seven, five, six}

pub record LastLeaders : Type 0 where
  -- 01's (7,4): the zero word and every single place
  pub of_seven : LastLeader 7 seven 3 0x40 8
  -- rows 10111, 01101
  pub of_five : LastLeader 5 five 3 0x0C 12
  -- the code of 01's sheet
  pub of_six : LastLeader 6 six 3 0x09 11
  -- n = 2, rows 11: the zero word and place 0; rows 10: place 1 too
  pub of_two : LastLeader 2 (digits 2 0b11 ∷ []) 1 0x01 2
  pub of_other_two : LastLeader 2 (digits 2 0b10 ∷ []) 1 0x02 3
