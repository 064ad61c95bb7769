pub mod Refusal  -- numbers and values of the causes, causes in order, and what an answer leaves in a lent list
