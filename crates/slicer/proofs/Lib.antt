pub mod Moving
pub mod SideForms
pub mod Cutting
pub mod FirstCut
pub mod CutSpells
