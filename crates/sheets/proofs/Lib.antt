pub mod FirstTunings
