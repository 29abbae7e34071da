mod Pieces
mod Tables
