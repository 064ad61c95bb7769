pub mod AnswerLaws  -- causes in order, and what an answer leaves in a list
