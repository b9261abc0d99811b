pub mod EntryLemmas
pub mod OwnedLemmas
pub mod PassLemmas
pub mod SettingLemmas
