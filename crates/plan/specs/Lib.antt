-- The specs of `plan`: the tables of codes and slots, and what a plan promises.
pub mod Tables
pub mod Plan
