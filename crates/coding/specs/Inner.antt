pub mod Beside  -- entries beside the reduced rows
pub mod SystematicSyndrome  -- the syndrome by a systematic matrix
