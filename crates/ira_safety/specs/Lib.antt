pub mod OneLeader
pub mod Reaches
pub mod TwoNodes
