pub mod LevelMarks
